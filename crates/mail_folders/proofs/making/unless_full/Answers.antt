use Rattle.mail_tree.specs.Folders.{unless_full}
use Rattle.mail_folders.specs.Pieces.{unless_long}
use Rattle.mail_draft.proofs.DeskCalls.{answers_exit, answers_of}
use Rattle.mail_folders.proofs.making.unless_full.Goals as goal

pub returns-in_err-table-clause-answer : goal.returns-in_err-table-clause-answer
unfolding unless_full
returns-in_err-table-clause-answer g c = answers_exit _ c.in_err-table.ensures.answer c.from_residual.ensures.1

pub returns-clause-answer : goal.returns-clause-answer
unfolding unless_full
returns-clause-answer g c = answers_of _ unless_long _ c.in_ok-table.ensures.answer c.unless_long.ensures.answer
