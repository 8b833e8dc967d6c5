use Rattle.std.proofs.Common.{◌≡◌, ◌+◌, ◌^◌, ◌≤◌, min, drop}
use Rattle.write_limits.specs.Space.{parts_space}
use Rattle.write_limits.proofs.objects.parts_space.Given as goal

-- with what is left, the total is that of all
abbrev pub invariant-loop-part : goal.invariant-loop-part
invariant-loop-part l = (l.total ≤ 2 ^ 60) × (min (l.total + parts_space (drop l.part-index l.parts)) (2 ^ 60) ≡ min (parts_space l.parts) (2 ^ 60))
