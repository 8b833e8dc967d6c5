use Rattle.std.proofs.Common.{◌∙◌, ◌+◌, List, length, sym, ap, subst, arith}
use Rattle.std.specs.List.{All}
use Rattle.pst_base.specs.declared.places.Place.{Place}
use Rattle.alloc_map.specs.Cells.{free_cells_of}
use Rattle.alloc_map.specs.Slots.{IsLaid}
use Rattle.alloc_map.specs.Taken.{IsPagePlace, Taken, Takes}
use Rattle.file_blocks.specs.Blocks.{file_of}
use Rattle.node_store.specs.Told.{StopsKeeping}
use Rattle.plan_placing.specs.Draws.{CanDraw}
use Rattle.plan_placing.proofs.PlaceSteps.{can-pages, gather, laid-8192}
use Rattle.plan_placing.proofs.place.draw_pages.Goals as goal

pub returns-in-Err-clause-stops : goal.returns-in-Err-clause-stops
returns-in-Err-clause-stops g c = c.in-Err.ensures.stops c.args.numbers (free_cells_of c.args.slots.now + length c.args.sketch.blocks.items)

pub returns-then-many-saturating_mul-clause-stops : goal.returns-then-many-saturating_mul-clause-stops
returns-then-many-saturating_mul-clause-stops g c =
    let old = g.W.Outside.view c.args.w.now in
    let new = g.W.Outside.view c.build.new.w in
    let left = free_cells_of c.args.slots.now in
    let Whole : Type 0 = CanDraw old c.args.header.now c.args.caches.now c.args.numbers c.args.sketch c.args.edits.items (left + length c.args.sketch.blocks.items) in
    let trees = c.in-Ok.built.trees in
    let low = c.in_ok-many.ensures.low in
    let past = c.if-many-saturating_mul.true in
    let most = c.saturating_mul.ensures in
    let cells = c.free_cells.ensures.count in
    subst (StopsKeeping old new Whole) (sym c.changed_at.ensures) (λ can.
    let built = c.in-Ok.ensures.built can.tells.cached in
    let fits = can-pages can left c.in_ok-many.many trees built.entries c.in-Ok.built.pieces.items built.sealed built.planned (omega arith) c.in_ok-many.ensures.count in
    absurd (omega (arith, fits, low, past, most, cells)))

pub returns-in-Ok-plan-clause-drawn : goal.returns-in-Ok-plan-clause-drawn
returns-in-Ok-plan-clause-drawn g c = λ m tells used counts cs sketched taken takes.
    let file = file_of (g.W.Outside.view c.args.w.now).here in
    let now = c.place_pages.new.self in
    let pages = c.as_slice.result.now in
    let same = sym c.as_slice.ensures.value in
    let second : Taken c.args.slots.now now pages = subst (Taken c.args.slots.now now) same c.in_ok-pages.ensures.taken in
    let next : Takes IsPagePlace c.args.slots.now pages now = subst (λ (ps : List Place). Takes IsPagePlace c.args.slots.now ps now) same c.in_ok-pages.ensures.placed in
    c.in-Ok-plan.ensures.drawn file m tells.lays used counts cs
    (gather tells.lays used c.args.slots.now now counts c.args.numbers.block cs c.args.sketch c.args.edits.items c.in-Ok.built.pieces.items c.args.places.now pages c.in-Ok.built.trees sketched (c.in-Ok.ensures.built tells.cached) taken takes second next)

pub place_pages-requires : goal.place_pages-requires
place_pages-requires g c =
    let few = c.if-many-saturating_mul.false in
    let most = c.saturating_mul.ensures in
    let pages = c.free_cells.ensures.pages in
    let low = c.in_ok-many.ensures.low in
    record { room = omega (arith, few, most, pages, low) }

pub finish_plan-plan-requires-clause-laid : goal.finish_plan-plan-requires-clause-laid
finish_plan-plan-requires-clause-laid g c =
    let regions = c.regions-regions.ensures in
    subst (All (IsLaid 8192)) (sym c.as_slice.ensures.value) (laid-8192 c.args.slots.now c.regions-regions.result c.in_ok-pages.pages.items regions.size regions.few c.in_ok-pages.ensures.taken.laid)

pub finish_plan-plan-requires-clause-count : goal.finish_plan-plan-requires-clause-count
finish_plan-plan-requires-clause-count g c = ap length c.as_slice.ensures.value ∙ c.in_ok-pages.ensures.count ∙ c.in_ok-many.ensures.count

pub give_back_all-requires : goal.give_back_all-requires
give_back_all-requires g c = record { taken = (c.args.slots.now, subst (Taken c.args.slots.now c.place_pages.new.self) (sym c.as_slice-2.ensures.value) c.in_ok-pages.ensures.taken) }

pub returns-in-Ok-plan-clause-back : goal.returns-in-Ok-plan-clause-back
returns-in-Ok-plan-clause-back g c = c.give_back_all.ensures.back c.args.slots.now (subst (Taken c.args.slots.now c.place_pages.new.self) (sym c.as_slice-2.ensures.value) c.in_ok-pages.ensures.taken)

pub returns-clause-back : goal.returns-clause-back
returns-clause-back g c = c.give_back_all.ensures.back c.args.slots.now (subst (Taken c.args.slots.now c.place_pages.new.self) (sym c.as_slice-2.ensures.value) c.in_ok-pages.ensures.taken)
