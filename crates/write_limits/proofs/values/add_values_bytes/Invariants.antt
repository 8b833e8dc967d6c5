use Rattle.std.proofs.Common.{◌≡◌, ◌+◌, ◌^◌, ◌≤◌, min, drop}
use Rattle.write_limits.specs.Space.{values_bytes}
use Rattle.write_limits.proofs.values.add_values_bytes.Given as goal

-- with what is left, the total is that of all
abbrev pub invariant-loop-value : goal.invariant-loop-value
invariant-loop-value l = (l.total ≤ 2 ^ 100) × (min (l.total + values_bytes (drop l.value-index l.values)) (2 ^ 100) ≡ min (l.fn.total + values_bytes l.values) (2 ^ 100))
