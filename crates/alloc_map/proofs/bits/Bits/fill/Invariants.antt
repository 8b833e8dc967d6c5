use Rattle.std.proofs.Common.{◌-◌}
use Rattle.alloc_map.specs.Slots.{Becomes}
use Rattle.alloc_map.proofs.bits.Bits.fill.Given as goal

-- the bits that were passed are put
abbrev pub invariant-loop-at : goal.invariant-loop-at
invariant-loop-at l = Becomes l.initial.self l.self l.from (l.at - l.from) l.value
