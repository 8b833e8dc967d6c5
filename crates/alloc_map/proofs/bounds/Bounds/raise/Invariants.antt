use Rattle.std.proofs.Common.{◌≡◌, ◌<◌, ◌≤◌, ℕ, length, get_or}
use Rattle.alloc_map.specs.Bounds.{AreTops}
use Rattle.alloc_map.proofs.bounds.Bounds.raise.Given as goal

-- the bounds that were passed are raised
abbrev pub invariant-loop-region : goal.invariant-loop-region
invariant-loop-region l = record {
  sound : AreTops l.self-inside.items.items l.self-inside.tops.items;
  size : length l.self-inside.items.items ≡ length l.initial.self-inside.items.items;
  raised : (r : ℕ) → l.from ≤ r → r < l.region → get_or l.self-inside.items.items r 0 ≡ 128;
  below : (r : ℕ) → r < l.from → get_or l.self-inside.items.items r 0 ≡ get_or l.initial.self-inside.items.items r 0;
  above : (r : ℕ) → l.region ≤ r → get_or l.self-inside.items.items r 0 ≡ get_or l.initial.self-inside.items.items r 0;
}
