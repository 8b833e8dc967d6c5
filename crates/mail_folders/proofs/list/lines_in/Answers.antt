use Rattle.mail_folders.specs.Pieces.{lines_in}
use Rattle.mail_draft.proofs.DeskCalls.{answers_exit, answers_then}
use Rattle.mail_folders.proofs.list.lines_in.Goals as goal

pub returns-in_err-lines-clause-answer : goal.returns-in_err-lines-clause-answer
unfolding lines_in
returns-in_err-lines-clause-answer g c = answers_exit _ c.in_err-lines.ensures.answer c.from_residual.ensures.1

pub returns-clause-answer : goal.returns-clause-answer
unfolding lines_in
returns-clause-answer g c = answers_then _ c.in_ok-lines.ensures.answer c.in_ok-lines.ensures.reads c.with_messages.ensures.answer
