use Rattle.std.proofs.Common.{◌≡◌, ◌++◌, drop}
use Rattle.table_context.specs.Rows.{row_names}
use Rattle.table_context.proofs.kept.push_row.Given as goal

-- the names so far, with those of the other columns, are all
abbrev pub invariant-loop-column : goal.invariant-loop-column
invariant-loop-column l = l.used.items ++ row_names l.from (drop l.column-index l.columns) l.row ≡ l.fn.used.items ++ row_names l.from l.columns l.row
