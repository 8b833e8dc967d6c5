use Rattle.std.proofs.Common.{◌≡◌, inr, ◌∙◌, not, sym, ap, arith}
use Rattle.mapi_values.specs.Messages.{Mes}
use Rattle.mail_tree.specs.Values.{is_read}
use Rattle.tree_look.proofs.Learning.{known-one, learns-one}
use Rattle.tree_look.specs.Forms.{IsNoMail}
use Rattle.tree_look.proofs.Found.{formless_caused, formless_found, unfit_found}
use Rattle.tree_look.specs.declared.stops.TreeFault.TheVariants.{Parent}
use Rattle.tree_look.proofs.nodes.look_message.Goals as goal

pub returns-then-node-folder-clause-found : goal.returns-then-node-folder-clause-found
returns-then-node-folder-clause-found g c = λ N held opened lists.
    unfit_found N c.args.nid Parent _ c.unfit-then-node-folder.ensures
    (c.in-Some.node, sym (c.in_ok-node.ensures.found N held) ∙ c.in-Some.is, (c.args.folder.bits, opened, inr lists, λ e. absurd (omega (arith, e, c.if-node-folder.true))))

pub returns-clause-found : goal.returns-clause-found
returns-clause-found g c = λ N held opened lists.
    formless_found N c.args.nid _ c.in_ok-node.field-0 c.in-Some.node c.in-Err.why (IsNoMail c.args.nid.bits c.in-Some.node) c.formless.ensures (c.in_ok-node.ensures.found N held) c.in-Some.is c.in-Err.ensures
    (λ fault none. inr (inr ((c.args.folder.bits, opened, lists), none)))

pub returns-clause-cause : goal.returns-clause-cause
returns-clause-cause g c = formless_caused _ _ _ c.args.nid _ c.in-Err.why c.formless.ensures

pub returns-in-Ok-clause-flags : goal.returns-in-Ok-clause-flags
returns-in-Ok-clause-flags g c = λ N held opened lists.
    let unread : not (is_read (c.in-Ok.mail).props) ≡ not c.is_read-unread.result = ap not (sym (c.is_read-unread.ensures ∙ ap (λ (m : Mes). is_read m.props) (c.behind-mail.view_is ∙ c.message.ensures.message))) in
    learns-one N c.args.nid.bits (not c.is_read-unread.result) c.args.flags.now c.keep_flag.new.flags c.in_ok-keep_flag-in-Ok.ensures.ok
    (c.args.folder.bits, opened, lists, (c.in-Ok.mail, (c.in-Some.node, sym (c.in_ok-node.ensures.found N held) ∙ c.in-Some.is, c.in-Ok.ensures), unread))

pub returns-in-Ok-clause-known : goal.returns-in-Ok-clause-known
returns-in-Ok-clause-known g c = known-one c.args.nid.bits (not c.is_read-unread.result) c.args.flags.now c.keep_flag.new.flags c.in_ok-keep_flag-in-Ok.ensures.ok
