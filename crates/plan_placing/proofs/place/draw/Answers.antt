use Rattle.std.proofs.Common.{◌+◌, List, length, sym, ap, subst, arith}
use Rattle.std.specs.List.{All}
use Rattle.pst_base.specs.declared.places.Place.{Place}
use Rattle.alloc_map.specs.Cells.{free_cells_of}
use Rattle.alloc_map.specs.Slots.{IsLaid}
use Rattle.alloc_map.specs.Taken.{IsBlockPlace, Taken, Takes}
use Rattle.file_pages.proofs.SourceLaws.{untouched-same}
use Rattle.node_store.specs.Told.{StopsKeeping}
use Rattle.plan_drawing.proofs.StopLaws.{keeping-later}
use Rattle.plan_placing.specs.Draws.{CanDraw}
use Rattle.plan_placing.proofs.PlaceSteps.{can-more, can-reach, laid-8192, taken-back}
use Rattle.plan_placing.proofs.place.draw.Goals as goal
use Rattle.plan_placing.proofs.place.draw.Goals.{then-header-le17408-via-then-header-le17408, then-header-le17408-via-else-header-le17408+then-header-gt-LARGEST}

pub returns-then-header-le17408-clause-stops : goal.returns-then-header-le17408-clause-stops
returns-then-header-le17408-clause-stops g c =
    let old = g.W.Outside.view c.args.w.now in
    let Whole : Type 0 = CanDraw old c.args.header.now c.args.caches.now c.args.numbers c.args.sketch c.args.edits.items (free_cells_of c.args.slots.now) in
    subst (StopsKeeping old old Whole) (sym c.changed_at.ensures) (λ can.
    let low = (can-reach can).0 in
    let high = (can-reach can).1 in
    elim c.then-header-le17408.branch [
      | then-header-le17408-via-then-header-le17408 w ↦ let h = w.if-header-le17408.true in absurd (omega (arith, h, low))
      | then-header-le17408-via-else-header-le17408+then-header-gt-LARGEST w ↦ let h = w.if-header-gt-LARGEST.true in absurd (omega (arith, h, high))
    ])

pub returns-in-Ok-clause-drawn : goal.returns-in-Ok-clause-drawn
returns-in-Ok-clause-drawn g c = λ m tells counts cs sketched.
    let now = c.place_blocks.new.self in
    let blocks = c.as_slice-3.result.now in
    let same = sym c.as_slice-3.ensures.value in
    let taken : Taken c.args.slots.now now blocks = subst (Taken c.args.slots.now now) same c.in_ok-places.ensures.taken in
    let takes : Takes IsBlockPlace c.args.slots.now blocks now = subst (λ (ps : List Place). Takes IsBlockPlace c.args.slots.now ps now) same c.in_ok-places.ensures.placed in
    c.in-Ok.ensures.drawn m tells c.args.slots.now counts cs sketched taken takes

pub returns-clause-stops : goal.returns-clause-stops
returns-clause-stops g c =
    let old = g.W.Outside.view c.args.w.now in
    let new = g.W.Outside.view c.draw_pages-plan.new.w in
    let free = free_cells_of c.args.slots.now in
    let more = free_cells_of c.place_blocks.new.self + length c.args.sketch.blocks.items in
    let room = c.in_ok-places.ensures.room in
    let count = c.in_ok-sizes.ensures.count in
    let one = ap length c.as_slice.ensures.value in
    let two = ap length c.as_slice-2.ensures.value in
    keeping-later old old new (CanDraw old c.args.header.now c.args.caches.now c.args.numbers c.args.sketch c.args.edits.items free) (CanDraw old c.args.header.now c.args.caches.now c.args.numbers c.args.sketch c.args.edits.items more) (untouched-same old)
    (can-more free more (omega (arith, room, count, one, two))) c.in-Err.stop c.in-Err.ensures.stops

pub place_blocks-requires-clause-room : goal.place_blocks-requires-clause-room
place_blocks-requires-clause-room g c =
    let few = c.if-len-free_cells.false in
    let cells = c.free_cells.ensures.count in
    let count = c.len.ensures in
    let same = ap length c.as_slice-2.ensures.value in
    omega (arith, few, cells, count, same)

pub draw_pages-plan-requires-clause-laid : goal.draw_pages-plan-requires-clause-laid
draw_pages-plan-requires-clause-laid g c =
    let regions = c.regions-regions.ensures in
    subst (All (IsLaid 8192)) (sym c.as_slice-3.ensures.value) (laid-8192 c.args.slots.now c.regions-regions.result c.in_ok-places.places.items regions.size regions.few c.in_ok-places.ensures.taken.laid)

pub give_back_all-requires : goal.give_back_all-requires
give_back_all-requires g c = record { taken = (c.args.slots.now, taken-back c.args.slots.now c.place_blocks.new.self c.draw_pages-plan.new.slots c.in_ok-places.places.items c.as_slice-4.result.now c.draw_pages-plan.ensures.back c.as_slice-4.ensures.value c.in_ok-places.ensures.taken) }

pub returns-in-Ok-clause-back : goal.returns-in-Ok-clause-back
returns-in-Ok-clause-back g c = c.give_back_all.ensures.back c.args.slots.now (taken-back c.args.slots.now c.place_blocks.new.self c.draw_pages-plan.new.slots c.in_ok-places.places.items c.as_slice-4.result.now c.draw_pages-plan.ensures.back c.as_slice-4.ensures.value c.in_ok-places.ensures.taken)

pub returns-clause-back : goal.returns-clause-back
returns-clause-back g c = c.give_back_all.ensures.back c.args.slots.now (taken-back c.args.slots.now c.place_blocks.new.self c.draw_pages-plan.new.slots c.in_ok-places.places.items c.as_slice-4.result.now c.draw_pages-plan.ensures.back c.as_slice-4.ensures.value c.in_ok-places.ensures.taken)
