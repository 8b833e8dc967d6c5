use Rattle.std.proofs.Common.{List, ℕ}
use Rattle.mail_folders.specs.Pieces.{each, ids_in, line_of_message, lines_of_messages}
use Rattle.mail_draft.proofs.DeskCalls.{answers_at, answers_exit, answers_then}
use Rattle.mail_folders.proofs.list.lines_of_messages.Goals as goal

pub returns-in_err-ids-clause-answer : goal.returns-in_err-ids-clause-answer
unfolding lines_of_messages
returns-in_err-ids-clause-answer g c = answers_exit _ c.in_err-ids.ensures.answer c.from_residual.ensures.1

pub returns-clause-answer : goal.returns-clause-answer
unfolding lines_of_messages
returns-clause-answer g c = answers_then _ c.in_ok-ids.ensures.answer c.in_ok-ids.ensures.reads (answers_at (λ (ids : List ℕ) T D. each (line_of_message T) ids) c.as_slice.ensures.value c.message_lines.ensures.answer)
