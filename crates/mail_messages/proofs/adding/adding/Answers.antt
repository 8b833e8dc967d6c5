use Rattle.mail_draft.proofs.DeskCalls.{changes_come, changes_come_exit}
use Rattle.mail_messages.proofs.adding.adding.Goals as goal

pub returns-in_err-add_message-clause-answer : goal.returns-in_err-add_message-clause-answer
returns-in_err-add_message-clause-answer g c = changes_come_exit _ c.in_err-add_message.ensures.answer c.from_residual.ensures.1

pub returns-clause-answer : goal.returns-clause-answer
returns-clause-answer g c = changes_come _ c.in_ok-add_message.ensures.answer c.in_ok-add_message.ensures.drafts c.making.ensures.answer
