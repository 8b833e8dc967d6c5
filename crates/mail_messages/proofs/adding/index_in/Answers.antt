use Rattle.mail_draft.proofs.DeskCalls.{answers_exit, answers_then}
use Rattle.mail_messages.proofs.adding.index_in.Goals as goal

pub returns-in_err-unless_full-clause-answer : goal.returns-in_err-unless_full-clause-answer
returns-in_err-unless_full-clause-answer g c = answers_exit _ c.in_err-unless_full.ensures.answer c.from_residual.ensures.1

pub returns-clause-answer : goal.returns-clause-answer
returns-clause-answer g c = answers_then _ c.in_ok-unless_full.ensures.answer c.in_ok-unless_full.ensures.reads c.next_message.ensures.answer
