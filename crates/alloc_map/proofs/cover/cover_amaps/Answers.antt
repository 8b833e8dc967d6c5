use Rattle.std.proofs.Common.{◌≡◌, ◌∙◌, ◌*◌, ◌+◌, ◌≤◌, length, refl, arith, add-one}
use Rattle.alloc_map.specs.Slots.{slot_of, slots_in}
use Rattle.alloc_map.specs.Standing.{amap_place, amap_places}
use Rattle.alloc_map.proofs.CoverLaws.{cover_none, cover_more}
use Rattle.alloc_map.proofs.cover.cover_amaps.Goals as goal

pub loop-region-init : goal.loop-region-init
unfolding amap_places
loop-region-init c = record {
  size = refl;
  covering = cover_none c.args.used.now (rw c.requires.size c.requires.clear);
}

pub loop-region-preserved : goal.loop-region-preserved
unfolding amap_places
loop-region-preserved c =
    let r = c.loop-region.region in
    let was = c.loop-region.invariant in
    let at : 3968 * r ≡ slot_of (amap_place r).ib = omega arith in
    let within : slot_of (amap_place r).ib + slots_in (amap_place r) ≤ length c.loop-region.used = omega arith in
    record {
      size = c.cover.ensures.covered.size ∙ was.size;
      covering = rw (c.least_of-twice.ensures, add-one) (cover_more (amap_place r) _ c.loop-region.used c.cover.new.used within was.covering.covered
          (rw at at c.cover.ensures.covered) c.loop-region.twice c.cover.result was.covering.least was.covering.within (rw at at c.cover.ensures.twice));
    }
