use Rattle.std.proofs.Common.{◌≡◌, ◌+◌, ◌^◌, ◌≤◌, min, drop}
use Rattle.write_limits.specs.Limits.{cells_bytes}
use Rattle.write_limits.proofs.counts.add_cells_bytes.Given as goal

-- with what is left, the total is that of all
abbrev pub invariant-loop-cell : goal.invariant-loop-cell
invariant-loop-cell l = (l.total ≤ 2 ^ 32) × (min (l.total + cells_bytes (drop l.cell-index l.cells)) (2 ^ 32) ≡ min (l.fn.total + cells_bytes l.cells) (2 ^ 32))
