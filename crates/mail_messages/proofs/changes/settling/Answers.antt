use Rattle.mail_draft.proofs.DeskCalls.{changes_come, changes_come_exit}
use Rattle.mail_messages.proofs.changes.settling.Goals as goal

pub returns-in_err-settled-clause-answer : goal.returns-in_err-settled-clause-answer
returns-in_err-settled-clause-answer g c = changes_come_exit _ c.in_err-settled.ensures.answer c.from_residual.ensures.1

pub returns-clause-answer : goal.returns-clause-answer
returns-clause-answer g c = changes_come _ c.in_ok-settled.ensures.answer c.in_ok-settled.ensures.drafts c.changing.ensures.answer
