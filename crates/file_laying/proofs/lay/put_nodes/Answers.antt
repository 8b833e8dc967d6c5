use Rattle.std.proofs.Common.{◌∙◌, [], true, ap, sym, subst}
use Rattle.pst_outside.proofs.Moments.{stays_settled}
use Rattle.gate_file.specs.Gate.{IsShut}
use Rattle.file_blocks.specs.Blocks.{file_of}
use Rattle.node_port.specs.Nodes.{no_nodes}
use Rattle.node_port.specs.Pins.{Pins}
use Rattle.node_port.specs.Stops.{Room}
use Rattle.pst_commit.specs.Keeping.{HasRoom, Holds, pins_of, room_with}
use Rattle.pst_commit.specs.Laws.{held_measures}
use Rattle.file_laying.proofs.LayingLaws.{holds_none, plan_fault, plan_stops}
use Rattle.file_laying.proofs.lay.put_nodes.Goals as goal

pub returns-in-Ok-apply-clause-laid : goal.returns-in-Ok-apply-clause-laid
returns-in-Ok-apply-clause-laid g c = λ tells.
    let start = g.W.Outside.view c.args.w.now in
    let kept = c.in-Ok-prepare.ensures.untouched in
    let told = kept.stays.told (c.apply.ensures.told tells) in
    let held = holds_none (g.S.NodeStore.knows c.in-Ok.planner) c.write.result start c.args.found c.requires.first (c.requires.laid told) told c.in-Ok.ensures.known in
    c.in-Ok-apply.ensures.made c.args.changes.counts.last c.args.changes.nodes.items c.in-Ok-prepare.ensures.fits
    (λ t. subst (λ i. IsShut i.side) (sym (kept.stays.here t)) (c.requires.shut (kept.stays.told t)))
    (λ e. tells) no_nodes (c.in-Ok-prepare.ensures.stays no_nodes held)

pub returns-in-Ok-apply-clause-last : goal.returns-in-Ok-apply-clause-last
returns-in-Ok-apply-clause-last g c = c.in-Ok-apply.ensures.last c.args.changes.counts.last c.args.changes.nodes.items c.in-Ok-prepare.ensures.fits

pub returns-in-Ok-apply-clause-no_pins : goal.returns-in-Ok-apply-clause-no_pins
returns-in-Ok-apply-clause-no_pins g c = c.in-Ok-apply.ensures.pins ∙ ap (λ (r : Room). r.pins) c.in-Ok-prepare.ensures.room ∙ ap (pins_of 0) c.in-Ok.ensures.no_pins

pub returns-in-Ok-apply-clause-made : goal.returns-in-Ok-apply-clause-made
returns-in-Ok-apply-clause-made g c = λ tells.
    let start = g.W.Outside.view c.args.w.now in
    let mid = g.W.Outside.view c.prepare.new.w in
    let now = g.W.Outside.view c.apply.new.w in
    let kept = c.in-Ok-prepare.ensures.untouched in
    let mid_told = c.apply.ensures.told tells in
    let told = kept.stays.told mid_told in
    let held = holds_none (g.S.NodeStore.knows c.in-Ok.planner) c.write.result start c.args.found c.requires.first (c.requires.laid told) told c.in-Ok.ensures.known in
    let becomes = c.in-Ok-apply.ensures.applied c.args.changes.counts.last c.args.changes.nodes.items c.in-Ok-prepare.ensures.fits no_nodes (c.in-Ok-prepare.ensures.stays no_nodes held)
    (λ t. subst (λ i. IsShut i.side) (sym (kept.stays.here t)) (c.requires.shut (kept.stays.told t))) tells in
    let pins = ap (λ (r : Room). r.pins) c.in-Ok-prepare.ensures.room ∙ ap (pins_of 0) c.in-Ok.ensures.no_pins in
    subst (λ i. g.S.NodeStore.becomes [] (file_of i) (file_of now.here)) (kept.stays.here mid_told)
    (subst (λ (p : Pins). g.S.NodeStore.becomes p.opened (file_of mid.here) (file_of now.here)) pins becomes.made)

pub returns-in-Ok-apply-clause-rests : goal.returns-in-Ok-apply-clause-rests
returns-in-Ok-apply-clause-rests g c = λ settled.
    let kept = c.in-Ok-prepare.ensures.untouched in (
      c.in-Ok-apply.ensures.settled (stays_settled settled kept),
      c.in-Ok-apply.ensures.rests (λ t. subst (λ i. IsShut i.side) (sym (kept.stays.here t)) (c.requires.shut (kept.stays.told t))),
    )

pub returns-in-Ok-apply-clause-said : goal.returns-in-Ok-apply-clause-said
returns-in-Ok-apply-clause-said g c = λ settled tells.
    let start = g.W.Outside.view c.args.w.now in
    let kept = c.in-Ok-prepare.ensures.untouched in
    let mid_told = c.apply.ensures.told tells in
    let told = kept.stays.told mid_told in
    let held = holds_none (g.S.NodeStore.knows c.in-Ok.planner) c.write.result start c.args.found c.requires.first (c.requires.laid told) told c.in-Ok.ensures.known in
    let leaves = c.apply.ensures.any_moment c.args.changes.counts.last c.args.changes.nodes.items c.in-Ok-prepare.ensures.fits no_nodes (c.in-Ok-prepare.ensures.stays no_nodes held)
    (stays_settled settled kept) (λ t. subst (λ i. IsShut i.side) (sym (kept.stays.here t)) (c.requires.shut (kept.stays.told t))) in
    (leaves.here tells).0 ∙ ap (λ i. i.said) (kept.stays.here mid_told)

pub returns-in-Err-apply-clause-said : goal.returns-in-Err-apply-clause-said
returns-in-Err-apply-clause-said g c = λ settled tells.
    let start = g.W.Outside.view c.args.w.now in
    let kept = c.in-Ok-prepare.ensures.untouched in
    let mid_told = c.apply.ensures.told tells in
    let told = kept.stays.told mid_told in
    let held = holds_none (g.S.NodeStore.knows c.in-Ok.planner) c.write.result start c.args.found c.requires.first (c.requires.laid told) told c.in-Ok.ensures.known in
    let leaves = c.apply.ensures.any_moment c.args.changes.counts.last c.args.changes.nodes.items c.in-Ok-prepare.ensures.fits no_nodes (c.in-Ok-prepare.ensures.stays no_nodes held)
    (stays_settled settled kept) (λ t. subst (λ i. IsShut i.side) (sym (kept.stays.here t)) (c.requires.shut (kept.stays.told t))) in
    (leaves.here tells).0 ∙ ap (λ i. i.said) (kept.stays.here mid_told)

pub returns-in-Err-clause-said : goal.returns-in-Err-clause-said
returns-in-Err-clause-said g c = λ settled tells. ap (λ i. i.said) (c.in-Err.ensures.untouched.stays.here tells)

pub returns-in-Err-clause-plan : goal.returns-in-Err-clause-plan
returns-in-Err-clause-plan g c = λ tells.
    let start = g.W.Outside.view c.args.w.now in
    let new = g.W.Outside.view c.prepare.new.w in
    let kept = c.in-Err.ensures.untouched in
    let told = kept.stays.told tells in
    let knows = g.S.NodeStore.knows c.in-Ok.planner in
    let held : Holds knows c.write.result c.args.found.header start no_nodes = holds_none knows c.write.result start c.args.found c.requires.first (c.requires.laid told) told c.in-Ok.ensures.known in
    let cells = g.S.NodeStore.cells c.in-Ok.planner in
    let pins = pins_of 0 (g.S.NodeStore.held c.in-Ok.planner) in
    let room : HasRoom start.here (room_with cells c.write.result pins) = held_measures knows (g.S.NodeStore.used c.in-Ok.planner) pins cells (g.met.S.NodeStore.known_right c.in-Ok.planner) c.write.result c.args.found.header start no_nodes held in
    plan_stops c.prepare.result new.here (room_with cells c.write.result pins) true start.disk_faults new.disk_faults c.args.changes.room c.args.changes.nodes.items (Holds knows c.write.result c.args.found.header start) no_nodes c.in-Err.stop c.in-Err.is held
    (subst (λ i. HasRoom i (room_with cells c.write.result pins)) (sym (kept.stays.here tells)) room) (c.prepare.ensures.full no_nodes held) c.in-Err.ensures.stops

pub returns-in-Err-clause-plan_fault : goal.returns-in-Err-clause-plan_fault
returns-in-Err-clause-plan_fault g c = λ is.
    let start = g.W.Outside.view c.args.w.now in
    plan_fault _ true start.disk_faults (g.W.Outside.view c.prepare.new.w).disk_faults (Holds (g.S.NodeStore.knows c.in-Ok.planner) c.write.result c.args.found.header start) c.in-Err.stop is c.in-Err.ensures.stops
