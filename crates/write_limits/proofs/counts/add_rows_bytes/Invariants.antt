use Rattle.std.proofs.Common.{◌≡◌, ◌+◌, ◌^◌, ◌≤◌, min, drop}
use Rattle.write_limits.specs.Limits.{rows_bytes}
use Rattle.write_limits.proofs.counts.add_rows_bytes.Given as goal

-- with what is left, the total is that of all
abbrev pub invariant-loop-row : goal.invariant-loop-row
invariant-loop-row l = (l.total ≤ 2 ^ 32) × (min (l.total + rows_bytes (drop l.row-index l.rows)) (2 ^ 32) ≡ min (l.fn.total + rows_bytes l.rows) (2 ^ 32))
