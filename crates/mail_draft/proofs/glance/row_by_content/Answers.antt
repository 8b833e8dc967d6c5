use Rattle.std.proofs.Common.{Bool, Ok, Err, is_some}
use Rattle.std.proofs.lemmas.Result.{err_from_is_err_and}
use Rattle.mapi_values.specs.Tables.{find_row}
use Rattle.mail_objects.specs.Forms.{Tbl}
use Rattle.mail_tree.specs.Changing.{as_table, nothing, now_at}
use Rattle.mail_draft.proofs.GlanceLaws.{content-table, content-there, has-said, says-where, table-there}
use Rattle.mail_draft.proofs.glance.row_by_content.Goals as goal

pub returns-in_err-node-clause-answer : goal.returns-in_err-node-clause-answer
returns-in_err-node-clause-answer g c = λ T s.
    let p = err_from_is_err_and c.from_residual.result c.from_residual.ensures.1 in
    rw (p.1, p.2)
    (says-where (λ (b : Bool). b) (as_table (now_at T nothing c.args.table.bits)) (λ (t : Tbl). Ok (is_some (find_row c.args.row.bits t.table.rows))) (Err c.in_err-node.field-0.0)
    (λ t here. c.in_err-node.ensures.answer T s))

pub returns-in-Some-clause-answer : goal.returns-in-Some-clause-answer
returns-in-Some-clause-answer g c = λ T s.
    let has = rw c.in-Some.is at (c.in_ok-node.ensures.answer T s) in
    says-where (λ (b : Bool). b) (as_table (now_at T nothing c.args.table.bits)) (λ (t : Tbl). Ok (is_some (find_row c.args.row.bits t.table.rows))) c.row_told.result
    (λ t here. has-said c.args.row.bits t c.row_told.result (c.row_told.ensures.told t (content-table c.args.table.bits c.in-Some.node has.0 _ _ t has.1 has.2 (table-there T c.args.table.bits t here))))

pub returns-in-None-clause-answer : goal.returns-in-None-clause-answer
returns-in-None-clause-answer g c = λ T s.
    let has = rw c.in-None.is at (c.in_ok-node.ensures.answer T s) in
    says-where (λ (b : Bool). b) (as_table (now_at T nothing c.args.table.bits)) (λ (t : Tbl). Ok (is_some (find_row c.args.row.bits t.table.rows))) (Err c.formless.result)
    (λ t here. absurd (content-there c.args.table.bits has.0 _ _ t has.1 has.2 (table-there T c.args.table.bits t here)))
