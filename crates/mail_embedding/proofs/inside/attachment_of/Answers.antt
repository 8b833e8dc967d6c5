use Rattle.mail_parts.proofs.mail_draft_laws.DeskCalls.{answers_exit}
use Rattle.mail_embedding.specs.Meant.{attachment_of}
use Rattle.mail_embedding.proofs.inside.attachment_of.Goals as goal

pub returns-in_err-mail-clause-answer : goal.returns-in_err-mail-clause-answer
unfolding attachment_of
returns-in_err-mail-clause-answer g c = answers_exit _ c.in_err-mail.ensures.answer c.from_residual.ensures.1
