use Rattle.std.proofs.Common.{◌*◌, Bool, List, false, ap, length, arith, subst, sym}
use Rattle.std.proofs.lemmas.List.{length-replicate}
use Rattle.alloc_map.specs.Standing.{IsCovered, occupied, standing}
use Rattle.alloc_map.proofs.CoverLaws.{covered_fixed, least_meeting, twice_from_meeting}
use Rattle.alloc_map.proofs.slots.Slots.rebuild.Goals as goal

pub start_of-requires : goal.start_of-requires
start_of-requires c = omega (arith, c.in-Some.ensures.covering.within, ap length c.in-Ok.ensures, length-replicate (8 * (496 * c.args.regions)) false)

pub returns-in-Some-clause-overlap : goal.returns-in-Some-clause-overlap
returns-in-Some-clause-overlap c =
    let least = least_meeting (standing c.args.places.now c.args.regions) c.in-Some.slot c.in-Some.ensures.covering.least in
    record { slot = c.in-Some.slot; start = c.start_of.ensures; meets = least.0; least = least.1 }

pub returns-in-Ok-over-clause-apart : goal.returns-in-Ok-over-clause-apart
returns-in-Ok-over-clause-apart c = λ slot meets. c.in_default-cover_all.ensures.covering.least slot (twice_from_meeting (standing c.args.places.now c.args.regions) slot meets)

pub returns-in-Ok-over-clause-used : goal.returns-in-Ok-over-clause-used
returns-in-Ok-over-clause-used c =
    let places = c.args.places.now in
    let r = c.args.regions in
    subst (λ (used : List Bool). IsCovered (occupied places r) used) (sym c.in-Ok-over.ensures)
    (covered_fixed places r c.fill_fixed.new.used (c.fill_fixed.ensures.covered (standing places r) c.in_default-cover_all.ensures.covering.covered))
