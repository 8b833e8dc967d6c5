use Rattle.std.proofs.Common.{get_or, take}
use Rattle.table_writer.specs.Writing.{FillsRows}
use Rattle.table_writer.proofs.write.rows_bytes.Given as goal

-- the rows so far are made
abbrev pub invariant-loop-row : goal.invariant-loop-row
invariant-loop-row l = FillsRows l.fn.made l.made (get_or l.ends 2 0) (get_or l.ends 3 0) l.columns (take l.row-index l.rows) l.out.items
