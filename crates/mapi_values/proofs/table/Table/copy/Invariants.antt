use Rattle.std.proofs.Common.{◌≡◌, take}
use Rattle.mapi_values.proofs.table.Table.copy.Given as goal

-- the rows that were passed are copied
abbrev pub invariant-loop-row : goal.invariant-loop-row
invariant-loop-row l = l.rows.items ≡ take l.row-index l.row-items
