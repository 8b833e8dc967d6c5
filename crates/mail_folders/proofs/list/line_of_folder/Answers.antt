use Rattle.std.proofs.Common.{List, ℕ, Ok}
use Rattle.mail_folders.specs.Pieces.{line_named, line_of_folder}
use Rattle.mail_draft.proofs.DeskCalls.{answers_exit, answers_of}
use Rattle.mail_folders.proofs.list.line_of_folder.Goals as goal

pub returns-in_err-name-clause-answer : goal.returns-in_err-name-clause-answer
unfolding line_of_folder
returns-in_err-name-clause-answer g c = answers_exit _ c.in_err-name.ensures.answer c.from_residual.ensures.1

pub returns-clause-answer : goal.returns-clause-answer
unfolding line_of_folder
returns-clause-answer g c = answers_of _ (λ (name : List ℕ). Ok (line_named c.args.place name)) _ c.in_ok-name.ensures.answer c.line_named.ensures
