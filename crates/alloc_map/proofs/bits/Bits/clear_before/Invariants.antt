use Rattle.std.proofs.Common.{◌≡◌, ℕ, not}
use Rattle.std.specs.List.{count_by, range_with_len}
use Rattle.alloc_map.specs.Slots.{is_used}
use Rattle.alloc_map.proofs.bits.Bits.clear_before.Given as goal

-- the clear bits of those that were passed are counted
abbrev pub invariant-loop-at : goal.invariant-loop-at
invariant-loop-at l = l.clear ≡ count_by (λ (at : ℕ). not (is_used l.self at)) (range_with_len 0 l.at)
