use Rattle.mail_draft.proofs.DeskCalls.{answers_exit, answers_of}
use Rattle.std.proofs.Common.{refl}
use Rattle.search_results.specs.Moving.{carried_one}
use Rattle.search_results.proofs.moving.carried_one.Goals as goal

pub returns-in_err-mail-clause-answer : goal.returns-in_err-mail-clause-answer
unfolding carried_one
returns-in_err-mail-clause-answer g c = answers_exit _ c.in_err-mail.ensures.answer c.from_residual.ensures.1

pub returns-clause-answer : goal.returns-clause-answer
unfolding carried_one
returns-clause-answer g c = answers_of _ _ _ c.in_ok-mail.ensures.answer (rw c.in_ok-old.ensures refl)
