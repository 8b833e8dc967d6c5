use Rattle.std.proofs.Common.{◌≡◌, ◌+◌, ◌^◌, ◌≤◌, min, drop}
use Rattle.write_limits.specs.Space.{rows_space}
use Rattle.write_limits.proofs.values.rows_bytes.Given as goal

-- with what is left, the total is that of all
abbrev pub invariant-loop-row : goal.invariant-loop-row
invariant-loop-row l = (l.total ≤ 2 ^ 100) × (min (l.total + rows_space l.size (drop l.row-index l.rows)) (2 ^ 100) ≡ min (rows_space l.size l.rows) (2 ^ 100))
