use Rattle.std.proofs.Common.{inl}
use Rattle.tree_look.specs.Forms.{IsNoContext}
use Rattle.tree_look.proofs.Found.{formless_caused, formless_found}
use Rattle.tree_look.proofs.nodes.look_fixed.Goals as goal

pub returns-clause-found : goal.returns-clause-found
returns-clause-found g c = λ N held fixed.
    formless_found N c.args.nid _ c.in_ok-node.field-0 c.in-Some.node c.in-Err.why (IsNoContext c.in-Some.node) c.formless.ensures (c.in_ok-node.ensures.found N held) c.in-Some.is c.in-Err.ensures
    (λ fault none. inl (inl fixed, none))

pub returns-clause-cause : goal.returns-clause-cause
returns-clause-cause g c = formless_caused _ _ _ c.args.nid _ c.in-Err.why c.formless.ensures
