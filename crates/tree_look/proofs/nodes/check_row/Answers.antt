use Rattle.std.proofs.Common.{inl, inr, ◌∙◌, false, List, sym, ap}
use Rattle.mapi_values.specs.Characters.{folded}
use Rattle.mapi_values.specs.Values.{Val}
use Rattle.mail_tree.specs.Values.{name_of}
use Rattle.tree_look.specs.Forms.{IsNoContext}
use Rattle.tree_look.proofs.Found.{formless_caused, formless_found, is_reached, named_there, too_deep, unfit_found}
use Rattle.tree_look.proofs.Learning.{learns-name}
use Rattle.tree_look.specs.declared.stops.TreeFault.TheVariants.{Depth}
use Rattle.tree_look.proofs.nodes.check_row.Goals as goal

pub returns-then-left-eq0-clause-found : goal.returns-then-left-eq0-clause-found
returns-then-left-eq0-clause-found g c = λ N held n sum comes.
    unfit_found N c.args.row Depth _ c.unfit-then-left-eq0.ensures
    (too_deep N c.args.above n c.args.row.bits c.args.left c.in-Some.sort sum c.if-left-eq0.true comes
    (named_there N c.args.row.bits c.in-Some.sort c.in-Some-2.node (sym c.sort_of.ensures ∙ c.in-Some.is) (sym (c.in_ok-node.ensures.found N held) ∙ c.in-Some-2.is)))

pub returns-clause-found : goal.returns-clause-found
returns-clause-found g c = λ N held n sum comes.
    formless_found N c.args.row _ c.in_ok-node.field-0 c.in-Some-2.node c.in-Err.why (IsNoContext c.in-Some-2.node) c.formless.ensures (c.in_ok-node.ensures.found N held) c.in-Some-2.is c.in-Err.ensures
    (λ fault none. inl (
      inr (
        n,
        is_reached N c.args.above n c.args.row.bits c.in-Some.sort comes
            (named_there N c.args.row.bits c.in-Some.sort c.in-Some-2.node (sym c.sort_of.ensures ∙ c.in-Some.is) (sym (c.in_ok-node.ensures.found N held) ∙ c.in-Some-2.is)),
      ),
      none,
    ))

pub returns-clause-cause : goal.returns-clause-cause
returns-clause-cause g c = formless_caused _ _ _ c.args.row _ c.in-Err.why c.formless.ensures

pub returns-in-Ok-clause-flags : goal.returns-in-Ok-clause-flags
returns-in-Ok-clause-flags g c = λ N held n comes.
    let at = sym (c.in_ok-node.ensures.found N held) ∙ c.in-Some-2.is in
    learns-name N c.args.row.bits n _ c.args.flags.now c.keep_name.new.flags c.in_ok-keep_name-in-Ok.ensures
    (is_reached N c.args.above n c.args.row.bits c.in-Some.sort comes (named_there N c.args.row.bits c.in-Some.sort c.in-Some-2.node (sym c.sort_of.ensures ∙ c.in-Some.is) at))
    (c.in-Ok.context, (c.in-Some-2.node, at, c.in-Ok.ensures), ap (λ (props : List Val). folded false (name_of props)) (sym c.props.ensures))
