use Rattle.std.proofs.Common.{◌≡◌, ◌≤◌, ◌++◌, drop, length}
use Rattle.alloc_map.specs.Covered.{IsCovering}
use Rattle.alloc_map.specs.Standing.{amap_places}
use Rattle.alloc_map.proofs.cover.cover_all.Given as goal

-- the AMap pages and the places from an index on are covered
abbrev pub invariant-loop-at : goal.invariant-loop-at
invariant-loop-at l = record {
  within : l.at ≤ length l.places;
  size : length l.used ≡ length l.initial.used;
  covering : IsCovering (drop l.at l.places ++ amap_places l.regions) l.used l.twice;
}

abbrev pub decreases-loop-at : goal.decreases-loop-at
decreases-loop-at l = l.at
