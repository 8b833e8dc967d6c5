use Rattle.std.proofs.Common.{Some, ap}
use Rattle.mapi_values.specs.Tables.{drop_row}
use Rattle.mail_objects.specs.Forms.{Tbl}
use Rattle.mail_objects.specs.declared.object.Object.TheVariants.{Table}
use Rattle.mail_tree.specs.Changing.{drop_shown, with_rows}
use Rattle.mail_draft.proofs.DeskCalls.{changes_exit}
use Rattle.mail_draft.proofs.DeskRows.{put_again}
use Rattle.mail_draft.proofs.on_desk.rows.drop_shown.Goals as goal

pub returns-in_err-node-clause-answer : goal.returns-in_err-node-clause-answer
unfolding drop_shown
returns-in_err-node-clause-answer g c = changes_exit _ c.in_err-node.ensures.answer c.from_residual.ensures.1

pub returns-clause-answer : goal.returns-clause-answer
unfolding drop_shown
returns-clause-answer g c =
    put_again c.args.table.bits (λ (t : Tbl). Some (with_rows (drop_row c.args.id.bits t.table.rows) t)) c.in_ok-node.ensures.answer c.in_ok-node.ensures.drafts c.in_ok-node.ensures.rest
    (ap (λ (t : Tbl). Some (Table t)) c.without_row.ensures) c.put.ensures.answer
