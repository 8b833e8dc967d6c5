use Rattle.std.proofs.Common.{◌≡◌, ◌∙◌, ℕ, Bool, List, length, sym, ap, subst, arith}
use Rattle.alloc_map.specs.Cells.{free_cells_of}
use Rattle.file_layout.proofs.Underway.{untouched_then}
use Rattle.file_layout.specs.Nodes.{NodeMap, blocks_in}
use Rattle.node_port.specs.Stops.{size}
use Rattle.node_store.specs.Told.{StopsKeeping, TellsNodes}
use Rattle.ref_counts.specs.Tables.{refs_in}
use Rattle.plan_drawing.specs.declared.draw.Numbers.{Numbers}
use Rattle.plan_drawing.specs.Drawn.{IsDrawn}
use Rattle.plan_drawing.proofs.NewLaws.{next-known}
use Rattle.plan_drawing.proofs.StopLaws.{keeping-later}
use Rattle.plan_placing.specs.Draws.{CanDraw, IsSketched}
use Rattle.plan_placing.specs.Places.{placing_over}
use Rattle.plan_placing.specs.Known.{IsKnown}
use Rattle.file_planner.proofs.PlanSteps.{can-after, draw-before}
use Rattle.file_planner.proofs.planner.FilePlanner.plan_nodes.Goals as goal
use Rattle.file_planner.proofs.planner.FilePlanner.plan_nodes.Goals.{then-self-lt4-via-then-self-lt4, then-self-lt4-via-else-self-lt4+then-self-ne0}

pub returns-then-self-lt4-clause-stops : goal.returns-then-self-lt4-clause-stops
returns-then-self-lt4-clause-stops g c =
    let old = g.W.Outside.view c.args.w.now in
    let p = c.args.self.now in
    let header = c.args.header.now in
    let Whole : Type 0 = (m : NodeMap) × (tells : TellsNodes old header p.caches m) × (length (placing_over p.slots p.held.all) ≡ length p.slots) × IsKnown tells.lays p.slots (refs_in p.refs) p.pages p.next_block p.next_page in
    subst (StopsKeeping old old Whole) (sym c.changed_at.ensures) (λ is.
    let k = next-known header (blocks_in is.1.lays.blocks) p.next_block is.3.next_block c.requires.low in
    let apart = k.0 in
    let some = k.1 in
    elim c.then-self-lt4.branch [
      | then-self-lt4-via-then-self-lt4 w ↦ let h = w.if-self-lt4.true in absurd (omega (arith, h, some))
      | then-self-lt4-via-else-self-lt4+then-self-ne0 w ↦ let h = w.if-self-ne0.true in absurd (h apart)
    ])

pub returns-in-Ok-plan-clause-keeps : goal.returns-in-Ok-plan-clause-keeps
returns-in-Ok-plan-clause-keeps g c = λ m tells. c.draw_beside-plan.ensures.keeps m (c.sketch_nodes.ensures.keeps m tells)

pub returns-in-Err-plan-clause-keeps : goal.returns-in-Err-plan-clause-keeps
returns-in-Err-plan-clause-keeps g c = λ m tells. c.draw_beside-plan.ensures.keeps m (c.sketch_nodes.ensures.keeps m tells)

pub returns-in-Ok-plan-clause-drawn : goal.returns-in-Ok-plan-clause-drawn
returns-in-Ok-plan-clause-drawn g c = λ m tells.
    let p = c.args.self.now in
    let q = c.sketch_nodes.new.self in
    let plan = c.in-Ok-plan.plan in
    let e = c.sketch_nodes.ensures in
    let numbers : Numbers = record { pages = q.pages; block = q.next_block; page = q.next_page } in
    let sketched : IsSketched tells.lays (refs_in p.refs) q.next_block c.args.nodes.now c.in-Ok.made.sketch c.in-Ok.made.edits.items =
    subst (λ (n : ℕ). IsSketched tells.lays (refs_in p.refs) n c.args.nodes.now c.in-Ok.made.sketch c.in-Ok.made.edits.items) (sym e.block) (c.in-Ok.ensures.sketched m tells) in
    let over : placing_over q.slots q.held.all ≡ placing_over p.slots p.held.all = λ i. placing_over (e.slots i) (e.union i) in
    let one : IsDrawn tells.lays (placing_over q.slots q.held.all) (refs_in p.refs) q.pages q.next_block q.next_page c.args.nodes.now plan.pieces.items plan.sealed plan.header plan.adopts =
    draw-before (placing_over q.slots q.held.all) (refs_in p.refs) numbers c.args.nodes.now c.in-Ok.made.sketch c.in-Ok.made.edits.items plan.pieces.items plan.sealed plan.header plan.adopts
    e.untouched tells (e.keeps m tells) c.in-Ok-plan.ensures.drawn sketched in
    let two : IsDrawn tells.lays (placing_over p.slots p.held.all) (refs_in p.refs) q.pages q.next_block q.next_page c.args.nodes.now plan.pieces.items plan.sealed plan.header plan.adopts =
    subst (λ (s : List Bool). IsDrawn tells.lays s (refs_in p.refs) q.pages q.next_block q.next_page c.args.nodes.now plan.pieces.items plan.sealed plan.header plan.adopts) over one in
    let three : IsDrawn tells.lays (placing_over p.slots p.held.all) (refs_in p.refs) p.pages q.next_block q.next_page c.args.nodes.now plan.pieces.items plan.sealed plan.header plan.adopts =
    subst (λ (n : ℕ). IsDrawn tells.lays (placing_over p.slots p.held.all) (refs_in p.refs) n q.next_block q.next_page c.args.nodes.now plan.pieces.items plan.sealed plan.header plan.adopts) e.pages two in
    let four : IsDrawn tells.lays (placing_over p.slots p.held.all) (refs_in p.refs) p.pages p.next_block q.next_page c.args.nodes.now plan.pieces.items plan.sealed plan.header plan.adopts =
    subst (λ (n : ℕ). IsDrawn tells.lays (placing_over p.slots p.held.all) (refs_in p.refs) p.pages n q.next_page c.args.nodes.now plan.pieces.items plan.sealed plan.header plan.adopts) e.block three in
    subst (λ (n : ℕ). IsDrawn tells.lays (placing_over p.slots p.held.all) (refs_in p.refs) p.pages p.next_block n c.args.nodes.now plan.pieces.items plan.sealed plan.header plan.adopts) e.page four

pub returns-in-Err-plan-clause-stops : goal.returns-in-Err-plan-clause-stops
returns-in-Err-plan-clause-stops g c =
    let old = g.W.Outside.view c.args.w.now in
    let mid = g.W.Outside.view c.sketch_nodes.new.w in
    let new = g.W.Outside.view c.draw_beside-plan.new.w in
    let p = c.args.self.now in
    let q = c.sketch_nodes.new.self in
    let header = c.args.header.now in
    let e = c.sketch_nodes.ensures in
    let numbers : Numbers = record { pages = q.pages; block = q.next_block; page = q.next_page } in
    let sketch = c.in-Ok.made.sketch in
    let edits = c.in-Ok.made.edits.items in
    let Whole : Type 0 = (m : NodeMap) × (tells : TellsNodes old header p.caches m) × (length (placing_over p.slots p.held.all) ≡ length p.slots) × IsKnown tells.lays p.slots (refs_in p.refs) p.pages p.next_block p.next_page in
    let Then : Type 0 = CanDraw mid header q.caches numbers sketch edits (free_cells_of (placing_over q.slots q.held.all)) in
    keeping-later old mid new Whole Then e.untouched
    (λ is.
    let enough = c.requires.enough in
    let low = c.requires.low in
    let block = e.block in
    let pages = e.pages in
    let over : placing_over q.slots q.held.all ≡ placing_over p.slots p.held.all = λ i. placing_over (e.slots i) (e.union i) in
    let cells = ap free_cells_of over in
    let whole : length (placing_over q.slots q.held.all) ≡ length q.slots = ap (λ (l : List Bool). length l) over ∙ is.2 ∙ sym (ap (λ (l : List Bool). length l) e.slots) in
    let known : IsKnown is.1.lays q.slots (refs_in p.refs) q.pages q.next_block q.next_page =
    subst (λ (s : List Bool). IsKnown is.1.lays s (refs_in p.refs) q.pages q.next_block q.next_page) (sym e.slots)
    (subst (λ (n : ℕ). IsKnown is.1.lays p.slots (refs_in p.refs) n q.next_block q.next_page) (sym e.pages)
    (subst (λ (n : ℕ). IsKnown is.1.lays p.slots (refs_in p.refs) p.pages n q.next_page) (sym e.block)
    (subst (λ (n : ℕ). IsKnown is.1.lays p.slots (refs_in p.refs) p.pages p.next_block n) (sym e.page) is.3))) in
    let sketched : IsSketched is.1.lays (refs_in p.refs) q.next_block c.args.nodes.now sketch edits = subst (λ (n : ℕ). IsSketched is.1.lays (refs_in p.refs) n c.args.nodes.now sketch edits) (sym e.block) (c.in-Ok.ensures.sketched is.0 is.1) in
    can-after q.slots (placing_over q.slots q.held.all) (refs_in p.refs) numbers c.args.nodes.now sketch edits (size c.args.nodes.now) e.untouched is.1 (e.keeps is.0 is.1) whole known sketched (omega (arith, low, block)) c.in-Ok.ensures.few (omega (arith, enough, pages, cells)))
    c.in-Err-plan.stop c.in-Err-plan.ensures.stops

pub returns-in-Ok-plan-clause-untouched : goal.returns-in-Ok-plan-clause-untouched
returns-in-Ok-plan-clause-untouched g c = untouched_then c.sketch_nodes.ensures.untouched c.draw_beside-plan.ensures.untouched

pub returns-in-Err-plan-clause-untouched : goal.returns-in-Err-plan-clause-untouched
returns-in-Err-plan-clause-untouched g c = untouched_then c.sketch_nodes.ensures.untouched c.draw_beside-plan.ensures.untouched
