use Rattle.std.proofs.Common.{◌≡◌, length}
use Rattle.alloc_map.specs.Covered.{IsCovering}
use Rattle.alloc_map.specs.Standing.{amap_places}
use Rattle.alloc_map.proofs.cover.cover_amaps.Given as goal

abbrev pub invariant-loop-region : goal.invariant-loop-region
invariant-loop-region l = record {
  size : length l.used ≡ length l.initial.used;
  covering : IsCovering (amap_places l.region) l.used l.twice;
}
