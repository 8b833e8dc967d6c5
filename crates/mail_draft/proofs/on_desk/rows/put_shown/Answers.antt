use Rattle.std.proofs.Common.{Some, ap}
use Rattle.mail_objects.specs.Forms.{Tbl}
use Rattle.mail_objects.specs.declared.object.Object.TheVariants.{Table}
use Rattle.mail_tree.specs.Changing.{put_shown, shown_row, with_rows}
use Rattle.mail_draft.proofs.DeskCalls.{changes_exit}
use Rattle.mail_draft.proofs.DeskRows.{put_again}
use Rattle.mail_draft.proofs.on_desk.rows.put_shown.Goals as goal

pub returns-in_err-node-clause-answer : goal.returns-in_err-node-clause-answer
unfolding put_shown
returns-in_err-node-clause-answer g c = changes_exit _ c.in_err-node.ensures.answer c.from_residual.ensures.1

pub returns-clause-answer : goal.returns-clause-answer
unfolding put_shown
returns-clause-answer g c =
    put_again c.args.table.bits (λ (t : Tbl). Some (with_rows (shown_row c.args.id.bits c.args.props.now t.table) t)) c.in_ok-node.ensures.answer c.in_ok-node.ensures.drafts c.in_ok-node.ensures.rest
    (ap (λ (t : Tbl). Some (Table t)) c.in_ok-shown.ensures) c.put.ensures.answer
