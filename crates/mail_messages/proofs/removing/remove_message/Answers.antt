use Rattle.std.proofs.Common.{◌∙◌, ap}
use Rattle.mapi_values.specs.Messages.{Mes}
use Rattle.mail_tree.specs.Messages.{removed_message}
use Rattle.mail_messages.specs.Pieces.{removing_message}
use Rattle.mail_draft.proofs.DeskCalls.{comes_at, comes_exit, comes_then}
use Rattle.mail_messages.proofs.removing.remove_message.Goals as goal

pub returns-in_err-mail-clause-answer : goal.returns-in_err-mail-clause-answer
unfolding removed_message removing_message
returns-in_err-mail-clause-answer g c = comes_exit _ c.in_err-mail.ensures.answer c.from_residual.ensures.1

pub returns-clause-answer : goal.returns-clause-answer
unfolding removed_message removing_message
returns-clause-answer g c =
    let folder = ap (λ (m : Mes). m.folder) (c.behind-mail.view_is ∙ c.message.ensures.message) in
    comes_then (λ T D (M : Mes). removing_message T c.args.message.bits M.folder) c.in_ok-mail.ensures.answer c.in_ok-mail.ensures.reads
    (comes_at (λ f T D. removing_message T c.args.message.bits f) folder c.take_out.ensures.answer)
