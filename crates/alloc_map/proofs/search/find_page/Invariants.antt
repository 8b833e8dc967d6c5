use Rattle.std.proofs.Common.{◌≡◌, length, sum}
use Rattle.alloc_map.specs.Rooms.{ArePageBounds}
use Rattle.alloc_map.proofs.search.find_page.Given as goal

abbrev pub invariant-loop-region : goal.invariant-loop-region
invariant-loop-region l = record {
  same : length l.bounds ≡ length l.initial.bounds;
  sound : ArePageBounds l.used l.bounds;
}

-- each turn lowers a bound
abbrev pub decreases-loop-region : goal.decreases-loop-region
decreases-loop-region l = sum l.bounds
