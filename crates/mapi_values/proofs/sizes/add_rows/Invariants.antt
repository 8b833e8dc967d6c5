use Rattle.std.proofs.Common.{◌≡◌, ◌+◌, ◌≤◌, min, drop}
use Rattle.mapi_values.specs.Messages.{greatest, rows_size}
use Rattle.mapi_values.proofs.sizes.add_rows.Given as goal

-- with what is left, the total is that of all
abbrev pub invariant-loop-row : goal.invariant-loop-row
invariant-loop-row l = (l.total ≤ greatest) × (min (l.total + rows_size (drop l.row-index l.rows)) greatest ≡ min (l.fn.total + rows_size l.rows) greatest)
