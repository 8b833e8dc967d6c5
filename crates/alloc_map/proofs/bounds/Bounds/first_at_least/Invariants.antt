use Rattle.std.proofs.Common.{◌≡◌, ◌<◌, ◌*◌, ℕ, length, get_or}
use Rattle.alloc_map.specs.Bounds.{AreTops}
use Rattle.alloc_map.proofs.bounds.Bounds.first_at_least.Given as goal

-- no region of the groups that were passed has such a bound
abbrev pub invariant-loop-group : goal.invariant-loop-group
invariant-loop-group l = record {
  same : l.self-inside.items ≡ l.initial.self-inside.items;
  sound : AreTops l.self-inside.items.items l.self-inside.tops.items;
  groups : length l.self-inside.tops.items ≡ length l.initial.self-inside.tops.items;
  passed : (r : ℕ) → r < 64 * l.group → r < length l.self-inside.items.items → get_or l.self-inside.items.items r 0 < l.n;
}
