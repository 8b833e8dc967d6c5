use Rattle.std.proofs.Common.{◌^◌, sym, subst, ◌∙◌}
use Rattle.file_blocks.specs.Blocks.{file_of, found_in}
use Rattle.file_layout.specs.Nodes.{NodeMap, blocks_in, nodes_in}
use Rattle.node_store.specs.Told.{StopsKeeping, TellsNodes}
use Rattle.node_store.proofs.BlockLaws.{keep-stops}
use Rattle.node_store.proofs.NextLaws.{whole-rise}
use Rattle.node_store.proofs.NodeLaws.{has-nodes, next-none, next-some, node_id}
use Rattle.node_store.proofs.node.next_node.Goals as goal

pub returns-in-Ok-Some-clause-next : goal.returns-in-Ok-Some-clause-next
returns-in-Ok-Some-clause-next g c = λ m N told those.
    let old = g.W.Outside.view c.args.w.now in
    let has = has-nodes told.lays in
    next-some N m (found_in (file_of old.here) (blocks_in told.lays.blocks)) c.args.header.now.eof (nodes_in told.lays.nodes) c.args.after c.key_after-low.result (2 ^ 64) c.in-Ok-Some.entry c.key_after-low.ensures those told.lays.are
    (whole-rise _ node_id c.args.header.now.nbt (nodes_in told.lays.nodes) has.0 has.1) (sym c.in-Ok-Some.field-0-is ∙ c.in-Ok-Some.ensures.found told.cached.nodes (nodes_in told.lays.nodes) has)

pub returns-in-Ok-None-clause-next : goal.returns-in-Ok-None-clause-next
returns-in-Ok-None-clause-next g c = λ m N told those.
    let old = g.W.Outside.view c.args.w.now in
    next-none N m (found_in (file_of old.here) (blocks_in told.lays.blocks)) c.args.header.now.eof (nodes_in told.lays.nodes) c.args.after c.key_after-low.result c.key_after-low.ensures those told.lays.are
    (sym c.in-Ok-None.field-0-is ∙ c.in-Ok-None.ensures.found told.cached.nodes (nodes_in told.lays.nodes) (has-nodes told.lays))

pub returns-in-Err-clause-stops : goal.returns-in-Err-clause-stops
returns-in-Err-clause-stops g c =
    let old = g.W.Outside.view c.args.w.now in
    let new = g.W.Outside.view c.entry_from.new.w in
    let Whole : Type 0 = (m : NodeMap) × TellsNodes old c.args.header.now c.args.caches.now m in
    subst (StopsKeeping old new Whole) (sym c.keep_stop.ensures)
    (keep-stops old new _ Whole (λ is. (is.1.cached.nodes, (nodes_in is.1.lays.nodes, has-nodes is.1.lays))) c.in-Err.stop c.in-Err.ensures.stops)
