use Rattle.std.proofs.Common.{◌-◌, ◌*◌, false}
use Rattle.alloc_map.specs.Slots.{AreAll}
use Rattle.alloc_map.proofs.bits.Bits.are_clear.Given as goal

abbrev pub invariant-loop-byte : goal.invariant-loop-byte
invariant-loop-byte l = AreAll l.self (8 * l.from) (8 * (l.byte - l.from)) false
