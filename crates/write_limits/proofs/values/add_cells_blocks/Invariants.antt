use Rattle.std.proofs.Common.{◌≡◌, ◌+◌, ◌^◌, ◌≤◌, min, drop}
use Rattle.write_limits.specs.Space.{cells_blocks}
use Rattle.write_limits.proofs.values.add_cells_blocks.Given as goal

-- with what is left, the total is that of all
abbrev pub invariant-loop-row : goal.invariant-loop-row
invariant-loop-row l = (l.total ≤ 2 ^ 60) × (min (l.total + cells_blocks (drop l.row-index l.rows)) (2 ^ 60) ≡ min (l.fn.total + cells_blocks l.rows) (2 ^ 60))
