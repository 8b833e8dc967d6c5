use Rattle.std.proofs.Common.{◌≡◌, ◌++◌, List, length}
use Rattle.pst_base.specs.declared.places.Place.{Place}
use Rattle.alloc_map.specs.Standing.{IsCovered, fixed_places}
use Rattle.alloc_map.proofs.cover.fill_fixed.Given as goal

-- the fixed pages of the regions that were passed are covered besides
abbrev pub invariant-loop-region : goal.invariant-loop-region
invariant-loop-region l = record {
  size : length l.used ≡ length l.initial.used;
  covered : (places : List Place) → IsCovered places l.initial.used → IsCovered (fixed_places l.region ++ places) l.used;
}
