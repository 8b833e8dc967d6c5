use Rattle.list_check.proofs.RowLaws.{of_rows, rows_ascend}
use Rattle.list_check.proofs.rows.RowIds.of.Goals as goal

pub invariant_of-result : goal.invariant_of-result
invariant_of-result c = rows_ascend c.in_ok-ids.ids.items c.rows.result.now c.args.table.now c.in_ok-ids.ensures c.rows.ensures.value c.rows.ensures.table

pub returns : goal.returns
returns c = of_rows c.in_ok-ids.ids.items c.rows.result.now c.args.table.now.rows c.in_ok-ids.ensures c.rows.ensures.value
