use Rattle.std.proofs.Common.{◌≡◌, ◌<◌, ◌≤◌, ◌*◌, ◌+◌, ℕ, false}
use Rattle.alloc_map.specs.Slots.{is_used, AreAll}
use Rattle.alloc_map.proofs.search.find_in_region.Given as goal

-- the slots from the candidate on are free, fewer than n, and none before it begins n free ones
abbrev pub invariant-loop-at : goal.invariant-loop-at
invariant-loop-at l = record {
  low : 3968 * l.region + 32 ≤ l.from;
  high : l.from ≤ l.at;
  short : l.at < l.from + l.n;
  free : (s : ℕ) → l.from ≤ s → s < l.at → is_used l.used s ≡ false;
  before : (p : ℕ) → 3968 * l.region + 32 ≤ p → p < l.from → AreAll l.used p l.n false → ⊥;
}
