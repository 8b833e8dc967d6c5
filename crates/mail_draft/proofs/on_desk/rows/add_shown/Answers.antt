use Rattle.std.proofs.Common.{Ok, Some, ap, sym, ◌∙◌}
use Rattle.command_text.specs.declared.reply.CommandRefusal.TheVariants.{Limit}
use Rattle.command_text.specs.declared.reply.Limit.TheVariants.{Rows}
use Rattle.mail_objects.specs.Forms.{Tbl}
use Rattle.mail_objects.specs.declared.object.Object.TheVariants.{Table}
use Rattle.mail_tree.specs.Changing.{add_shown, overfills, shown_row, with_object, with_rows}
use Rattle.mail_draft.proofs.DeskCalls.{changes_exit}
use Rattle.mail_draft.proofs.DeskRows.{put_tested, refused_there}
use Rattle.mail_draft.proofs.RowLaws.{test_of}
use Rattle.mail_draft.proofs.on_desk.rows.add_shown.Goals as goal

pub returns-in_err-node-clause-answer : goal.returns-in_err-node-clause-answer
unfolding add_shown
returns-in_err-node-clause-answer g c = changes_exit _ c.in_err-node.ensures.answer c.from_residual.ensures.1

pub returns-then-overfills-clause-answer : goal.returns-then-overfills-clause-answer
unfolding add_shown
returns-then-overfills-clause-answer g c =
    let id = c.args.id.bits in let props = c.args.props.now in let node = c.in_ok-node.node in
    refused_there (λ (t : Tbl). overfills t.table.rows (shown_row id props t.table)) (Limit Rows) (λ D t. Ok (with_object c.args.table.bits (Some (with_rows (shown_row id props t.table) t)) D)) c.in_ok-node.ensures.answer
    (sym (ap (λ (v : Tbl). overfills node.table.rows v.table.rows) c.in_ok-shown.ensures)
    ∙ test_of node.table.rows c.table.result.now _ _ _ _ _ (ap (λ t. t.rows) c.table.ensures.table) c.rows-old_len.ensures.len c.table-2.ensures.table c.overfills.ensures c.if-overfills.true)

pub returns-clause-answer : goal.returns-clause-answer
unfolding add_shown
returns-clause-answer g c =
    let id = c.args.id.bits in let props = c.args.props.now in let node = c.in_ok-node.node in
    put_tested c.args.table.bits (λ (t : Tbl). overfills t.table.rows (shown_row id props t.table)) (Limit Rows) (λ (t : Tbl). Some (with_rows (shown_row id props t.table) t))
    c.in_ok-node.ensures.answer c.in_ok-node.ensures.drafts c.in_ok-node.ensures.rest
    (sym (ap (λ (v : Tbl). overfills node.table.rows v.table.rows) c.in_ok-shown.ensures)
    ∙ test_of node.table.rows c.table.result.now _ _ _ _ _ (ap (λ t. t.rows) c.table.ensures.table) c.rows-old_len.ensures.len c.table-2.ensures.table c.overfills.ensures c.if-overfills.false)
    (ap (λ (t : Tbl). Some (Table t)) c.in_ok-shown.ensures) c.put.ensures.answer
