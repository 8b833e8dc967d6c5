use Rattle.std.proofs.Common.{◌∙◌, Ok, ap}
use Rattle.mail_tree.specs.mail_objects.Forms.{Tbl}
use Rattle.mail_tree.specs.Changing.{nothing, table_at}
use Rattle.mail_tree.specs.Settling.{message_ids}
use Rattle.mail_folders.specs.Pieces.{ids_in}
use Rattle.mail_draft.proofs.DeskCalls.{answers_at, answers_exit, answers_of}
use Rattle.mail_folders.proofs.list.ids_in.Goals as goal

pub returns-in_err-table-clause-answer : goal.returns-in_err-table-clause-answer
unfolding ids_in
returns-in_err-table-clause-answer g c = answers_exit _ (answers_at (λ q T D. table_at T nothing q) c.contents.ensures c.in_err-table.ensures.answer) c.from_residual.ensures.1

pub returns-clause-answer : goal.returns-clause-answer
unfolding ids_in
returns-clause-answer g c =
    answers_of _ (λ (t : Tbl). Ok (message_ids t.table)) _ (answers_at (λ q T D. table_at T nothing q) c.contents.ensures c.in_ok-table.ensures.answer) (c.in_ok-message_ids.ensures ∙ ap message_ids c.table-2.ensures.table)
