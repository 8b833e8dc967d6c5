use Rattle.std.proofs.Common.{◌<◌, ◌≤◌, ◌*◌, ℕ, get_or}
use Rattle.alloc_map.proofs.bounds.first_of_group.Given as goal

abbrev pub invariant-loop-region : goal.invariant-loop-region
invariant-loop-region l = (q : ℕ) → 64 * l.group ≤ q → q < l.region → get_or l.bounds q 0 < l.n
