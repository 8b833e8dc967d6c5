use Rattle.std.proofs.Common.{◌-◌}
use Rattle.alloc_map.specs.Slots.{AreAll}
use Rattle.alloc_map.proofs.bits.Bits.are_all.Given as goal

abbrev pub invariant-loop-at : goal.invariant-loop-at
invariant-loop-at l = AreAll l.self l.from (l.at - l.from) l.value
