use Rattle.std.proofs.Common.{◌≡◌, ◌+◌, ◌^◌, ◌≤◌, min, drop}
use Rattle.write_limits.specs.Limits.{long_values}
use Rattle.write_limits.proofs.counts.add_long_values.Given as goal

-- with what is left, the total is that of all
abbrev pub invariant-loop-value : goal.invariant-loop-value
invariant-loop-value l = (l.total ≤ 2 ^ 32) × (min (l.total + long_values (drop l.value-index l.values)) (2 ^ 32) ≡ min (l.fn.total + long_values l.values) (2 ^ 32))
