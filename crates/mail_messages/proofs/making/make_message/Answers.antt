use Rattle.std.proofs.Common.{◌∙◌, Ok}
use Rattle.mapi_values.specs.Messages.{Mes}
use Rattle.mail_tree.specs.Changing.{contents, nothing}
use Rattle.mail_tree.specs.Folders.{unless_full}
use Rattle.mail_tree.specs.Ids.{message_kinds, next_index}
use Rattle.mail_tree.specs.Messages.{making_message}
use Rattle.mail_messages.specs.Parts.{adding}
use Rattle.mail_draft.proofs.DeskCalls.{comes_at, comes_exit, comes_from, comes_then}
use Rattle.mail_messages.proofs.Calls.{comes_regrouped}
use Rattle.mail_messages.proofs.making.make_message.Goals as goal

pub returns-in_err-index-clause-answer : goal.returns-in_err-index-clause-answer
returns-in_err-index-clause-answer g c =
    let f = c.args.folder.bits in let class = c.args.class.now in let time = c.args.time in let store = c.args.store.now.props in let values = c.args.values.now in
    comes_regrouped (λ T D. unless_full T (contents f)) (λ T D u. Ok (next_index T 4 message_kinds)) (λ T D. making_message T f class time store values)
    (comes_exit _ c.in_err-index.ensures.answer c.from_residual.ensures.1)

pub returns-clause-answer : goal.returns-clause-answer
unfolding making_message
returns-clause-answer g c =
    let f = c.args.folder.bits in let class = c.args.class.now in let time = c.args.time in let store = c.args.store.now.props in let values = c.args.values.now in
    comes_regrouped (λ T D. unless_full T (contents f)) (λ T D u. Ok (next_index T 4 message_kinds)) (λ T D. making_message T f class time store values)
    (comes_then (λ T D. making_message T f class time store values) c.in_ok-index.ensures.answer c.in_ok-index.ensures.reads
    (comes_at (λ (M : Mes) T D. adding T M nothing c.in_ok-index.index) c.in_ok-mail.ensures
    (comes_from (λ T D. adding T c.in_ok-mail.mail D c.in_ok-index.index) (c.in_ok-index.ensures.reads.changed ∙ c.requires.fresh) c.adding.ensures.answer)))
