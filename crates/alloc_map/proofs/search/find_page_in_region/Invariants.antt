use Rattle.std.proofs.Common.{◌<◌, ◌*◌, ℕ}
use Rattle.alloc_map.specs.Rooms.{IsPageIn}
use Rattle.alloc_map.proofs.search.find_page_in_region.Given as goal

-- no page before this byte is free
abbrev pub invariant-loop-byte : goal.invariant-loop-byte
invariant-loop-byte l = (p : ℕ) → p < 8 * l.byte → IsPageIn l.used l.region p → ⊥
