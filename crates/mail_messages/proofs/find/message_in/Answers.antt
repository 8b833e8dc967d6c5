use Rattle.mail_tree.specs.Changing.{message_at, nothing}
use Rattle.mail_draft.proofs.DeskCalls.{answers_exit, answers_then}
use Rattle.mail_messages.proofs.Calls.{answers_same}
use Rattle.mail_messages.proofs.FoundLaws.{there}
use Rattle.mail_messages.proofs.find.message_in.Goals as goal

pub returns-in_err-check_there-clause-answer : goal.returns-in_err-check_there-clause-answer
returns-in_err-check_there-clause-answer g c = answers_same (λ T D. there T c.args.message.bits) (answers_exit (λ T D u. message_at T nothing c.args.message.bits) c.in_err-check_there.ensures.answer c.from_residual.ensures.1)

pub returns-clause-answer : goal.returns-clause-answer
returns-clause-answer g c = answers_same (λ T D. there T c.args.message.bits) (answers_then (λ T D u. message_at T nothing c.args.message.bits) c.in_ok-check_there.ensures.answer c.in_ok-check_there.ensures.reads c.message_before.ensures.answer)
