use Rattle.mail_tree.specs.Messages.{remaking}
use Rattle.mail_messages.specs.Pieces.{showing_message}
use Rattle.mail_draft.proofs.DeskCalls.{changes_come, changes_come_exit}
use Rattle.mail_messages.proofs.changes.remake_message.Goals as goal

pub returns-in_err-remade-clause-answer : goal.returns-in_err-remade-clause-answer
unfolding remaking showing_message
returns-in_err-remade-clause-answer g c = changes_come_exit _ c.in_err-remade.ensures.answer c.from_residual.ensures.1

pub returns-clause-answer : goal.returns-clause-answer
unfolding remaking showing_message
returns-clause-answer g c = changes_come _ c.in_ok-remade.ensures.answer c.in_ok-remade.ensures.drafts c.replying.ensures.answer
