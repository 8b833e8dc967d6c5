use Rattle.std.proofs.Common.{◌∙◌, ◌-◌, ◌+◌, ◌<◌, ◌≤◌, ◌++◌, length, drop, get_or, arith}
use Rattle.std.proofs.lemmas.List.{get_or_default}
use Rattle.pst_base.specs.declared.places.Place.{Place}
use Rattle.alloc_map.specs.Slots.{slot_of, slots_in}
use Rattle.alloc_map.specs.Standing.{amap_places}
use Rattle.alloc_map.proofs.CoverLaws.{cover_more, drop_place}
use Rattle.alloc_map.proofs.cover.cover_all.Goals as goal

pub loop-at-preserved : goal.loop-at-preserved
loop-at-preserved c =
    let places = c.args.places.now in
    let fixed = amap_places c.args.regions in
    let below : c.loop-at.at - 1 < length places = omega arith in
    let p : Place = get_or places (c.loop-at.at - 1) (record { ib = 0; len = 0 }) in
    let was = c.loop-at.invariant in
    let laid = c.requires.laid (c.loop-at.at - 1) (record { ib = 0; len = 0 }) below in
    let within : slot_of p.ib + slots_in p ≤ length c.loop-at.used = omega (arith, laid.above, laid.within, laid.start, laid.whole) in
    record {
      within = omega arith;
      size = c.cover.ensures.covered.size ∙ was.size;
      covering = rw (c.least_of-twice.ensures, drop_place places fixed (c.loop-at.at - 1) c.loop-at.at p (omega arith) below (get_or_default places _ p _ below))
          (cover_more p (drop c.loop-at.at places ++ fixed) c.loop-at.used c.cover.new.used within was.covering.covered
          (rw (c.slot_of.ensures, c.slots_in.ensures) at c.cover.ensures.covered) c.loop-at.twice c.cover.result was.covering.least was.covering.within (rw (c.slot_of.ensures, c.slots_in.ensures) at c.cover.ensures.twice));
    }
