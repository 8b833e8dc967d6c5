use Rattle.std.proofs.Common.{ℕ, sym, ap, subst, ◌∙◌}
use Rattle.data_tree.specs.Single.{single_of}
use Rattle.file_blocks.specs.Blocks.{file_of, found_in}
use Rattle.file_layout.specs.Nodes.{NodeMap, blocks_in, nodes_in}
use Rattle.tree_edit.specs.Edits.{entry_with}
use Rattle.file_pages.proofs.SourceLaws.{caches-still}
use Rattle.node_store.specs.Told.{StopsKeeping, TellsNodes}
use Rattle.node_store.proofs.BlockLaws.{keep-stops, tree-stops}
use Rattle.node_store.proofs.NodeLaws.{block-kept, block-none, block-reads, blocks-then, node_id, has-nodes, nodes-on, nodes-then}
use Rattle.node_store.proofs.single.read_node_block.Goals as goal

pub returns-in-Ok-None-clause-block : goal.returns-in-Ok-None-clause-block
returns-in-Ok-None-clause-block g c = λ m N told those.
    let old = g.W.Outside.view c.args.w.now in
    block-none N m (found_in (file_of old.here) (blocks_in told.lays.blocks)) c.args.header.now.eof c.args.nid.bits c.args.position (nodes_in told.lays.nodes) those told.lays.are
    (sym c.in-Ok-None.field-0-is ∙ c.in-Ok-None.ensures.found told.cached.nodes (nodes_in told.lays.nodes) (has-nodes told.lays) ∙ ap (λ (k : ℕ). entry_with node_id k (nodes_in told.lays.nodes)) c.from.ensures)

pub returns-in-Ok-clause-block : goal.returns-in-Ok-clause-block
returns-in-Ok-clause-block g c = λ m N told those.
    let old = g.W.Outside.view c.args.w.now in
    let find = found_in (file_of old.here) (blocks_in told.lays.blocks) in
    block-kept N m find c.args.header.now.eof c.args.nid.bits c.args.position (nodes_in told.lays.nodes) c.in-Ok-Some.entry (c.in-Ok.count, c.in-Ok.block) those told.lays.are
    (sym c.in-Ok-Some.field-0-is ∙ c.in-Ok-Some.ensures.found told.cached.nodes (nodes_in told.lays.nodes) (has-nodes told.lays) ∙ ap (λ (k : ℕ). entry_with node_id k (nodes_in told.lays.nodes)) c.from.ensures)
    (c.in-Ok.ensures.reads find (blocks-then c.in-Ok-Some.ensures.same told))

pub returns-in-Ok-None-clause-keeps : goal.returns-in-Ok-None-clause-keeps
returns-in-Ok-None-clause-keeps g c = nodes-on c.in-Ok-None.ensures.same (λ both. record { blocks = caches-still c.in-Ok-None.ensures.same both.blocks; nodes = c.in-Ok-None.ensures.caches both.nodes })

pub returns-in-Err-clause-stops : goal.returns-in-Err-clause-stops
returns-in-Err-clause-stops g c =
    let old = g.W.Outside.view c.args.w.now in
    let new = g.W.Outside.view c.entry_at.new.w in
    let Whole : Type 0 = (m : NodeMap) × TellsNodes old c.args.header.now c.args.caches.now m in
    subst (StopsKeeping old new Whole) (sym c.keep_stop.ensures)
    (keep-stops old new _ Whole (λ is. (is.1.cached.nodes, (nodes_in is.1.lays.nodes, has-nodes is.1.lays))) c.in-Err.stop c.in-Err.ensures.stops)

pub returns-in-Ok-clause-keeps : goal.returns-in-Ok-clause-keeps
returns-in-Ok-clause-keeps g c = nodes-then c.entry_at.ensures.same c.entry_at.ensures.caches c.read_tree.ensures.asks

pub returns-in-Err-read_tree-clause-keeps : goal.returns-in-Err-read_tree-clause-keeps
returns-in-Err-read_tree-clause-keeps g c = nodes-then c.entry_at.ensures.same c.entry_at.ensures.caches c.read_tree.ensures.asks

pub returns-in-Err-read_tree-clause-stops : goal.returns-in-Err-read_tree-clause-stops
returns-in-Err-read_tree-clause-stops g c =
    let old = g.W.Outside.view c.args.w.now in
    let mid = g.W.Outside.view c.entry_at.new.w in
    let new = g.W.Outside.view c.read_tree.new.w in
    let eof = c.args.header.now.eof in
    let entry = c.in-Ok-Some.entry in
    let Whole : Type 0 = (m : NodeMap) × TellsNodes old c.args.header.now c.args.caches.now m in
    subst (StopsKeeping old new Whole) (sym c.tree_stop.ensures)
    (tree-stops old mid new (record { kind = 0x80; root = c.args.header.now.bbt; eof = eof }) c.args.caches.now.blocks (λ find. single_of find c.args.position entry.content) Whole c.args.header.now.bbt.ib c.entry_at.ensures.same.counts.disk_faults
    (λ is. (
      found_in (file_of old.here) (blocks_in is.1.lays.blocks),
      blocks-then c.entry_at.ensures.same is.1,
      (λ fault bad. block-reads is.1.lays c.args.nid.bits c.args.position entry fault (sym c.in-Ok-Some.field-0-is ∙ c.in-Ok-Some.ensures.found is.1.cached.nodes (nodes_in is.1.lays.nodes) (has-nodes is.1.lays) ∙ ap (λ (k : ℕ). entry_with node_id k (nodes_in is.1.lays.nodes)) c.from.ensures) bad),
    ))
    c.in-Err-read_tree.stop c.in-Err-read_tree.ensures.stops)
