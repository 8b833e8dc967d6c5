use Rattle.std.proofs.Common.{◌≡◌, ◌∙◌, ◌*◌, ◌+◌, ◌≤◌, ◌++◌, length, refl, arith, add-one}
use Rattle.alloc_map.specs.Slots.{slot_of, slots_in}
use Rattle.alloc_map.specs.Standing.{fixed_place, fixed_places}
use Rattle.alloc_map.proofs.CoverLaws.{covered_more, fixed_slots_small}
use Rattle.alloc_map.proofs.cover.fill_fixed.Goals as goal

pub fill-requires : goal.fill-requires
fill-requires c = record { within = omega (arith, c.fixed_slots.ensures, fixed_slots_small c.loop-region.region); small = omega arith }

pub loop-region-init : goal.loop-region-init
unfolding fixed_places
loop-region-init c = record { size = refl; covered = λ places h. h }

pub loop-region-preserved : goal.loop-region-preserved
unfolding fixed_places
loop-region-preserved c =
    let r = c.loop-region.region in
    let was = c.loop-region.invariant in
    let at : 3968 * r ≡ slot_of (fixed_place r).ib = omega arith in
    let n : c.fixed_slots.result ≡ slots_in (fixed_place r) = omega (arith, c.fixed_slots.ensures) in
    let within : slot_of (fixed_place r).ib + slots_in (fixed_place r) ≤ length c.loop-region.used = omega (arith, fixed_slots_small r) in
    record {
      size = c.fill.ensures.size ∙ was.size;
      covered = λ places h. rw add-one (covered_more (fixed_place r) (fixed_places r ++ places) c.loop-region.used c.fill.new.self within (was.covered places h) (rw (at, n) at c.fill.ensures));
    }
