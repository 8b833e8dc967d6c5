use Rattle.std.proofs.Common.{subst, arith}
use Rattle.std.proofs.lemmas.List.{take_all}
use Rattle.std.proofs.lemmas.Result.{err_from_is_err_and}
use Rattle.file_blocks.specs.Blocks.{file_of, found_in}
use Rattle.file_layout.specs.Nodes.{NodeMap, blocks_in, nodes_in}
use Rattle.file_layout.proofs.Underway.{untouched_then}
use Rattle.node_store.specs.Told.{TellsNodes}
use Rattle.content_plan.specs.Told.{HasParts}
use Rattle.content_plan.proofs.LoopLaws.{Plans, planned-next, planned-start}
use Rattle.content_plan.proofs.PlanLaws.{Changes, front-whole}
use Rattle.content_plan.proofs.TellLaws.{keeps-telling, parts-told, stops-then}
use Rattle.content_plan.proofs.plan.plan_contents.Goals as goal

pub loop-change-init : goal.loop-change-init
loop-change-init g c =
    let e = c.new-plan.ensures in
    planned-start (g.W.Outside.view c.args.w.now) c.args.header.now c.args.caches.now c.args.next c.args.changes.now c.new-plan.result c.requires.order c.requires.high e.edits e.blocks e.taken e.put

pub returns-in_err-one-clause-stops : goal.returns-in_err-one-clause-stops
returns-in_err-one-clause-stops g c =
    let p = err_from_is_err_and c.from_residual.result c.from_residual.ensures.1 in
    let old = g.W.Outside.view c.args.w.now in
    let mid = g.W.Outside.view c.loop-change.w in
    let new = g.W.Outside.view c.plan_node.new.w in
    let header = c.args.header.now in
    let Part : Type 0 = HasParts mid header c.loop-change.caches in
    let Whole : Type 0 = (m : NodeMap) × TellsNodes old header c.args.caches.now m in
    let inv = c.loop-change.invariant in
    rw (p.1, p.2) (stops-then old mid new Part Whole inv.same.counts.disk_faults
    (λ is.
    let find = found_in (file_of old.here) (blocks_in is.1.lays.blocks) in
    let es = nodes_in is.1.lays.nodes in
    (find, es, inv.keeps find es (parts-told is.1))) c.in_err-one.field-0.0 c.in_err-one.ensures.stops)

pub returns-in_err-one-clause-keeps : goal.returns-in_err-one-clause-keeps
returns-in_err-one-clause-keeps g c = keeps-telling (untouched_then c.loop-change.invariant.same c.plan_node.ensures.untouched) (λ find es told. c.plan_node.ensures.keeps find es (c.loop-change.invariant.keeps find es told))

pub returns-in_err-free-clause-keeps : goal.returns-in_err-free-clause-keeps
returns-in_err-free-clause-keeps g c = keeps-telling (untouched_then c.loop-change.invariant.same c.plan_node.ensures.untouched) (λ find es told. c.plan_node.ensures.keeps find es (c.loop-change.invariant.keeps find es told))

pub returns-in_err-plan-clause-keeps : goal.returns-in_err-plan-clause-keeps
returns-in_err-plan-clause-keeps g c = keeps-telling (untouched_then c.loop-change.invariant.same c.plan_node.ensures.untouched) (λ find es told. c.plan_node.ensures.keeps find es (c.loop-change.invariant.keeps find es told))

pub loop-change-preserved : goal.loop-change-preserved
loop-change-preserved g c =
    let made = c.in_ok-one.ensures in
    let lists = c.in_ok-plan.ensures in
    let behind = made.after in
    let same = c.in_ok-free.ensures.same in
    planned-next (g.W.Outside.view c.args.w.now) (g.W.Outside.view c.loop-change.w) (g.W.Outside.view c.plan_node.new.w) c.args.header.now c.args.caches.now c.loop-change.caches c.plan_node.new.caches c.args.next c.loop-change.free c.in_ok-free.free
    c.args.changes.now c.loop-change.change-index c.change-item.result c.loop-change.plan c.in_ok-one.one c.in_ok-plan.plan c.loop-change-test.true c.change-item.is c.plan_node.ensures.id (omega (arith, behind, same)) c.in_ok-free.ensures.high
    c.loop-change.invariant c.plan_node.ensures.untouched c.plan_node.ensures.keeps made.counted made.plans (record { edits = lists.edits; blocks = lists.blocks; taken = lists.taken; put = lists.put })

pub returns-clause-plan : goal.returns-clause-plan
returns-clause-plan g c = λ m tells.
    let old = g.W.Outside.view c.args.w.now in
    let find = found_in (file_of old.here) (blocks_in tells.lays.blocks) in
    let es = nodes_in tells.lays.nodes in
    let P : Changes → Type 0 = λ cs. Plans find c.args.header.now.eof c.args.next es cs c.loop-change.plan in
    subst P (take_all c.loop-change.change-index c.args.changes.now c.loop-change-test.false) (c.loop-change.invariant.plans find es (parts-told tells))

pub returns-clause-edits : goal.returns-clause-edits
returns-clause-edits g c = (front-whole c.args.next c.loop-change.free c.args.changes.now c.loop-change.change-index c.loop-change.plan.edits.items c.loop-change.plan.blocks.items c.loop-change-test.false c.loop-change.invariant.front).edits_rise

pub returns-clause-keeps : goal.returns-clause-keeps
returns-clause-keeps g c = keeps-telling c.loop-change.invariant.same c.loop-change.invariant.keeps
