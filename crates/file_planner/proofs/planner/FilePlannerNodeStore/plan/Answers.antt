use Rattle.std.proofs.Common.{◌≡◌, ◌∙◌, ℕ, List, [], length, Option, true, Ok, Err, ap, sym, subst, arith}
use Rattle.pst_base.specs.declared.ids.Nid.{Nid}
use Rattle.file_layout.specs.Nodes.{NodeMap}
use Rattle.node_port.specs.declared.node.NodeRec.{NodeRec}
use Rattle.node_port.specs.Nodes as port
use Rattle.node_port.specs.Pins.{no_pins}
use Rattle.node_port.specs.Stops.{PrepareStops}
use Rattle.alloc_map.specs.Cells.{free_cells_of}
use Rattle.node_store.specs.Told.{TellsNodes}
use Rattle.pst_commit.specs.Held.{opened_of}
use Rattle.pst_commit.specs.Keeping.{Holds, PlansFor}
use Rattle.ref_counts.specs.Tables.{refs_in}
use Rattle.plan_placing.specs.Places.{placing_over}
use Rattle.plan_placing.specs.Known.{IsKnown}
use Rattle.file_planner.specs.Becomes.{IsMade}
use Rattle.file_planner.specs.Cost.{IsWithin}
use Rattle.file_planner.specs.Knowing.{Knows, KnowsAfter, placing}
use Rattle.file_planner.proofs.ComesLaws.{both-same, cached-after, drawn-on, empty-reads, empty-tells, held-emptied, looks-on, plans-when}
use Rattle.file_planner.proofs.KeepLaws.{decides-on, decides-same, prepare-to, room-enough}
use Rattle.file_planner.proofs.StayLaws.{emptied, planned}
use Rattle.file_planner.proofs.planner.FilePlannerNodeStore.plan.Goals as goal

pub returns-in-Err-clause-full : goal.returns-in-Err-clause-full
returns-in-Err-clause-full g c = λ found N held.
    decides-same ℕ c.free_cells-free.result _ c.args.self.now.pages c.args.changes.room c.spent-spent.result _ found c.as_slice-nodes.result.now c.args.changes.nodes.items (Err c.in-Err.stop) (c.free_cells-free.ensures.count ∙ ap free_cells_of c.placing.ensures) c.spent-spent.ensures c.as_slice-nodes.ensures.value
    (decides-on ℕ ℕ (record { free = c.free_cells-free.result; pages = c.args.self.now.pages; spent = c.spent-spent.result; found = found; pins = no_pins }) c.args.changes.room c.as_slice-nodes.result.now c.in-Err.stop (c.in-Err.ensures.decides found))

pub plan_nodes-requires-clause-low : goal.plan_nodes-requires-clause-low
plan_nodes-requires-clause-low g c =
    let is = c.in-Ok.ensures.decides [] in
    let low = (room-enough c.free_cells-free.result c.args.self.now.pages c.args.self.now.next_block c.args.self.now.next_page c.args.changes.room [] c.as_slice-nodes.result.now (sym c.spent-spent.ensures ∙ is.0, is.1)).0 in
    let same = c.clear.ensures.block in
    omega (arith, low, same)

pub plan_nodes-requires-clause-page_low : goal.plan_nodes-requires-clause-page_low
plan_nodes-requires-clause-page_low g c =
    let is = c.in-Ok.ensures.decides [] in
    let low = (room-enough c.free_cells-free.result c.args.self.now.pages c.args.self.now.next_block c.args.self.now.next_page c.args.changes.room [] c.as_slice-nodes.result.now (sym c.spent-spent.ensures ∙ is.0, is.1)).1 in
    let same = c.clear.ensures.page in
    omega (arith, low, same)

pub plan_nodes-requires-clause-enough : goal.plan_nodes-requires-clause-enough
plan_nodes-requires-clause-enough g c =
    let is = c.in-Ok.ensures.decides [] in
    let enough = (room-enough c.free_cells-free.result c.args.self.now.pages c.args.self.now.next_block c.args.self.now.next_page c.args.changes.room [] c.as_slice-nodes.result.now (sym c.spent-spent.ensures ∙ is.0, is.1)).2 in
    let pages = c.clear.ensures.pages in
    let free : free_cells_of (placing c.clear.new.self) ≡ free_cells_of (placing c.args.self.now) = λ i. free_cells_of (placing_over (c.clear.ensures.slots i) (c.clear.ensures.union i)) in
    let count = c.free_cells-free.ensures.count ∙ ap free_cells_of c.placing.ensures in
    omega (arith, enough, pages, free, count)

pub returns-in-Ok-plan_nodes-clause-plan : goal.returns-in-Ok-plan_nodes-clause-plan
returns-in-Ok-plan_nodes-clause-plan g c = λ found.
    let is = c.in-Ok.ensures.decides [] in
    let room = room-enough c.free_cells-free.result c.args.self.now.pages c.args.self.now.next_block c.args.self.now.next_page c.args.changes.room [] c.as_slice-nodes.result.now (sym c.spent-spent.ensures ∙ is.0, is.1) in
    let low = room.0 in
    let page_low = room.1 in
    let e = c.plan_nodes.ensures in
    let blocks = e.block ∙ c.clear.ensures.block in
    let pages = e.page ∙ c.clear.ensures.page in
    let q = c.plan_nodes.new.self in
    let plan = c.in-Ok-plan_nodes.plan in
    let header = c.args.header.now in
    let w = g.W.Outside.view c.plan_nodes.new.w in
    let value = c.as_slice-nodes.ensures.value in
    let same = planned c.clear.new.self q e.slots e.pins e.union e.refs e.pages e.block e.page in (
      c.in-Ok-plan_nodes.ensures.indexes,
      subst (λ (l : List (Nid × Option NodeRec)). PlansFor (Knows q) (KnowsAfter q plan.adopts) (IsMade (opened_of q.held.pins.items)) IsWithin q.held.pins.items found header w plan.pieces.items plan.sealed plan.header l) value
          (plans-when q found header (g.W.Outside.view c.args.w.now) w c.clear.new.self.caches c.as_slice-nodes.result.now plan.pieces.items plan.sealed plan.header plan.adopts c.clear.ensures.blocks c.clear.ensures.nodes e.untouched
          (subst (λ (l : List (Nid × Option NodeRec)). port.ascend 0 l ≡ true) (sym value) c.requires.order) (omega (arith, low, blocks)) (omega (arith, page_low, pages)) c.in-Ok-plan_nodes.ensures.room
          (λ m tells. drawn-on tells.lays c.clear.new.self q c.as_slice-nodes.result.now plan.pieces.items plan.sealed plan.header plan.adopts same (c.in-Ok-plan_nodes.ensures.drawn m tells))),
    )

pub returns-in-Ok-plan_nodes-clause-full : goal.returns-in-Ok-plan_nodes-clause-full
returns-in-Ok-plan_nodes-clause-full g c = λ found N held.
    decides-same _ c.free_cells-free.result _ c.args.self.now.pages c.args.changes.room c.spent-spent.result _ found c.as_slice-nodes.result.now c.args.changes.nodes.items (Ok c.in-Ok.field-0) (c.free_cells-free.ensures.count ∙ ap free_cells_of c.placing.ensures) c.spent-spent.ensures c.as_slice-nodes.ensures.value (c.in-Ok.ensures.decides found)

pub returns-in-Ok-plan_nodes-clause-looks : goal.returns-in-Ok-plan_nodes-clause-looks
returns-in-Ok-plan_nodes-clause-looks g c =
    let k = c.clear.ensures in
    let e = c.plan_nodes.ensures in
    let cleared = emptied c.args.self.now c.clear.new.self k.slots k.pins k.union k.refs k.pages k.block k.page in
    let same = planned c.clear.new.self c.plan_nodes.new.self e.slots e.pins e.union e.refs e.pages e.block e.page in
    looks-on c.args.self.now c.plan_nodes.new.self c.args.header.now (g.W.Outside.view c.args.w.now) (g.W.Outside.view c.plan_nodes.new.w) (both-same cleared same) e.untouched
    (λ m present tells lays end knows. cached-after e.untouched e.keeps m (empty-reads c.clear.new.self.caches k.blocks k.nodes tells lays))

pub returns-clause-looks : goal.returns-clause-looks
returns-clause-looks g c =
    let k = c.clear.ensures in
    let e = c.plan_nodes.ensures in
    let cleared = emptied c.args.self.now c.clear.new.self k.slots k.pins k.union k.refs k.pages k.block k.page in
    let same = planned c.clear.new.self c.plan_nodes.new.self e.slots e.pins e.union e.refs e.pages e.block e.page in
    looks-on c.args.self.now c.plan_nodes.new.self c.args.header.now (g.W.Outside.view c.args.w.now) (g.W.Outside.view c.plan_nodes.new.w) (both-same cleared same) e.untouched
    (λ m present tells lays end knows. cached-after e.untouched e.keeps m (empty-reads c.clear.new.self.caches k.blocks k.nodes tells lays))

pub returns-clause-stops : goal.returns-clause-stops
returns-clause-stops g c = λ found.
    let v = g.W.Outside.view c.args.w.now in
    let w = g.W.Outside.view c.plan_nodes.new.w in
    let p = c.args.self.now in
    let q = c.clear.new.self in
    let k = c.clear.ensures in
    let header = c.args.header.now in
    subst (PrepareStops true v.disk_faults w.disk_faults (Holds (Knows p) found header v)) (sym c.prepare_stop.ensures)
    (prepare-to v w ((m : NodeMap) × (tells : TellsNodes v header q.caches m) × (length (placing q) ≡ length q.slots) × IsKnown tells.lays q.slots (refs_in q.refs) q.pages q.next_block q.next_page) (Holds (Knows p) found header v)
    (λ N held. empty-tells q.caches k.blocks k.nodes (held-emptied p q found header v (emptied p q k.slots k.pins k.union k.refs k.pages k.block k.page) k.blocks k.nodes held))
    c.in-Err-plan_nodes.stop c.in-Err-plan_nodes.ensures.stops)
