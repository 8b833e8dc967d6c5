use Rattle.mapi_values.specs.Messages.{Mes}
use Rattle.mail_draft.proofs.DeskCalls.{answers_exit, answers_of}
use Rattle.mail_messages.specs.Parts.{value_reply}
use Rattle.mail_messages.specs.Reading.{value_at}
use Rattle.mail_messages.proofs.reading.whole_reply.Goals as goal

pub returns-in_err-mail-clause-answer : goal.returns-in_err-mail-clause-answer
unfolding value_at
returns-in_err-mail-clause-answer g c = answers_exit _ c.in_err-mail.ensures.answer c.from_residual.ensures.1

pub returns-clause-answer : goal.returns-clause-answer
unfolding value_at
returns-clause-answer g c = answers_of _ (λ (m : Mes). value_reply c.args.tag m.props) _ c.in_ok-mail.ensures.answer c.reply_of.ensures.answer
