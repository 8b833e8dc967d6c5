use Rattle.std.proofs.Common.{◌≡◌, ◌+◌, ◌^◌, ◌≤◌, min, drop}
use Rattle.write_limits.specs.Limits.{long_cells}
use Rattle.write_limits.proofs.counts.add_long_cells.Given as goal

-- with what is left, the total is that of all
abbrev pub invariant-loop-row : goal.invariant-loop-row
invariant-loop-row l = (l.total ≤ 2 ^ 32) × (min (l.total + long_cells (drop l.row-index l.rows)) (2 ^ 32) ≡ min (l.fn.total + long_cells l.rows) (2 ^ 32))
