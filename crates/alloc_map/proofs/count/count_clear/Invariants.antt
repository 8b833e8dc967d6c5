use Rattle.std.proofs.Common.{◌≡◌, not, take}
use Rattle.std.specs.List.{count_by}
use Rattle.alloc_map.proofs.count.count_clear.Given as goal

-- the clear bits of those that were passed are counted
abbrev pub invariant-loop-at : goal.invariant-loop-at
invariant-loop-at l = l.free ≡ count_by not (take l.at l.bits)
