use Rattle.std.proofs.Common.{◌≡◌, ◌+◌, ◌≤◌, min, drop}
use Rattle.mapi_values.specs.Messages.{greatest, values_size}
use Rattle.mapi_values.proofs.sizes.add_values.Given as goal

-- with what is left, the total is that of all
abbrev pub invariant-loop-value : goal.invariant-loop-value
invariant-loop-value l = (l.total ≤ greatest) × (min (l.total + values_size (drop l.value-index l.values)) greatest ≡ min (l.fn.total + values_size l.values) greatest)
