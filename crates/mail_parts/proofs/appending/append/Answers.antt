use Rattle.mail_tree.specs.Messages.{appended_data}
use Rattle.mail_draft.proofs.DeskCalls.{comes_exit, comes_then}
use Rattle.mail_parts.proofs.appending.append.Goals as goal

pub returns-in_err-mail-clause-answer : goal.returns-in_err-mail-clause-answer
unfolding appended_data
returns-in_err-mail-clause-answer g c = comes_exit _ c.in_err-mail.ensures.answer c.from_residual.ensures.1

pub returns-clause-answer : goal.returns-clause-answer
unfolding appended_data
returns-clause-answer g c = comes_then _ c.in_ok-mail.ensures.answer c.in_ok-mail.ensures.reads c.append_in.ensures.answer
