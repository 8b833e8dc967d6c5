use Rattle.std.proofs.Common.{◌≡◌, ◌+◌, ◌^◌, ◌≤◌, min, drop}
use Rattle.write_limits.specs.Space.{values_blocks}
use Rattle.write_limits.proofs.values.add_values_blocks.Given as goal

-- with what is left, the total is that of all
abbrev pub invariant-loop-value : goal.invariant-loop-value
invariant-loop-value l = (l.total ≤ 2 ^ 60) × (min (l.total + values_blocks (drop l.value-index l.values)) (2 ^ 60) ≡ min (l.fn.total + values_blocks l.values) (2 ^ 60))
