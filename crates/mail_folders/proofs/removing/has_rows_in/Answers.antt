use Rattle.mail_tree.specs.Folders.{has_rows}
use Rattle.std.proofs.Common.{Ok}
use Rattle.mail_folders.specs.Pieces.{has_rows_in}
use Rattle.mail_draft.proofs.DeskCalls.{answers_exit, answers_of}
use Rattle.mail_folders.proofs.removing.has_rows_in.Goals as goal

pub returns-in_err-table-clause-answer : goal.returns-in_err-table-clause-answer
unfolding has_rows_in
returns-in_err-table-clause-answer g c = answers_exit _ c.in_err-table.ensures.answer c.from_residual.ensures.1

pub returns-clause-answer : goal.returns-clause-answer
unfolding has_rows_in
returns-clause-answer g c = answers_of (λ b. b) (λ t. Ok (has_rows t)) _ c.in_ok-table.ensures.answer c.has_rows.ensures
