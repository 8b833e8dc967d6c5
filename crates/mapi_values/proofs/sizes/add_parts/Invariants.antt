use Rattle.std.proofs.Common.{◌≡◌, ◌+◌, ◌≤◌, min, drop}
use Rattle.mapi_values.specs.Messages.{greatest, parts_size}
use Rattle.mapi_values.proofs.sizes.add_parts.Given as goal

-- with what is left, the total is that of all
abbrev pub invariant-loop-part : goal.invariant-loop-part
invariant-loop-part l = (l.total ≤ greatest) × (min (l.total + parts_size (drop l.part-index l.parts)) greatest ≡ min (l.fn.total + parts_size l.parts) greatest)
