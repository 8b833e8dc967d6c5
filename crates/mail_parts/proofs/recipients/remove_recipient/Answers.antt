use Rattle.mail_tree.specs.Messages.{removed_recipient}
use Rattle.mail_draft.proofs.DeskCalls.{comes_exit, comes_then}
use Rattle.mail_parts.proofs.recipients.remove_recipient.Goals as goal

pub returns-in_err-mail-clause-answer : goal.returns-in_err-mail-clause-answer
unfolding removed_recipient
returns-in_err-mail-clause-answer g c = comes_exit _ c.in_err-mail.ensures.answer c.from_residual.ensures.1

pub returns-clause-answer : goal.returns-clause-answer
unfolding removed_recipient
returns-clause-answer g c = comes_then _ c.in_ok-mail.ensures.answer c.in_ok-mail.ensures.reads c.remove_one.ensures.answer
