use Rattle.std.proofs.Common.{◌^◌, sym, subst}
use Rattle.file_blocks.specs.Blocks.{entry_key}
use Rattle.file_layout.proofs.Underway.{untouched_then}
use Rattle.file_layout.specs.Nodes.{NodeMap}
use Rattle.node_store.specs.Told.{StopsKeeping, TellsNodes}
use Rattle.tree_edit.specs.Edits.{AreEdits}
use Rattle.plan_drawing.proofs.TreeSteps.{block-stops, keeps-trees, node-stops, planned-trees, tree-is}
use Rattle.plan_drawing.proofs.trees.change_trees.Goals as goal

pub returns-in-Err-clause-stops : goal.returns-in-Err-clause-stops
returns-in-Err-clause-stops g c =
    let old = g.W.Outside.view c.args.w.now in
    let new = g.W.Outside.view c.change_at.new.w in
    let header = c.args.header.now in
    let Whole : Type 0 = AreEdits entry_key 0 (2 ^ 64) c.args.blocks.now × ((m : NodeMap) × TellsNodes old header c.args.caches.now m) in
    let t = c.block_tree-tree.result in
    subst (StopsKeeping old new Whole) (sym c.keep_stop.ensures)
    (block-stops old new header c.args.caches.now t (tree-is t 0x80 header.bbt header.eof c.block_tree-tree.ensures.kind c.block_tree-tree.ensures.root c.block_tree-tree.ensures.eof) Whole (λ whole. whole.1) c.in-Err.stop c.in-Err.ensures.stops)

pub returns-in-Ok-change_at-clause-plans : goal.returns-in-Ok-change_at-clause-plans
returns-in-Ok-change_at-clause-plans g c =
    let header = c.args.header.now in
    let t = c.block_tree-tree.result in
    let u = c.node_tree-tree.result in
    planned-trees (g.W.Outside.view c.args.w.now) (g.W.Outside.view c.change_at.new.w) header c.args.caches.now c.args.blocks.now c.args.nodes.now c.in-Ok.plan c.in-Ok-change_at.nodes t u
    (tree-is t 0x80 header.bbt header.eof c.block_tree-tree.ensures.kind c.block_tree-tree.ensures.root c.block_tree-tree.ensures.eof) (tree-is u 0x81 header.nbt header.eof c.node_tree-tree.ensures.kind c.node_tree-tree.ensures.root c.node_tree-tree.ensures.eof)
    c.change_at.ensures.same c.in-Ok.ensures.plan c.in-Ok-change_at.ensures.plan

pub returns-in-Ok-change_at-clause-keeps : goal.returns-in-Ok-change_at-clause-keeps
returns-in-Ok-change_at-clause-keeps g c =
    let header = c.args.header.now in
    let t = c.block_tree-tree.result in
    let u = c.node_tree-tree.result in
    keeps-trees (g.W.Outside.view c.args.w.now) (g.W.Outside.view c.change_at.new.w) (g.W.Outside.view c.change_at-2.new.w) header c.args.caches.now c.change_at.new.cache c.change_at-2.new.cache t u
    (tree-is t 0x80 header.bbt header.eof c.block_tree-tree.ensures.kind c.block_tree-tree.ensures.root c.block_tree-tree.ensures.eof) (tree-is u 0x81 header.nbt header.eof c.node_tree-tree.ensures.kind c.node_tree-tree.ensures.root c.node_tree-tree.ensures.eof)
    c.change_at.ensures.same c.change_at-2.ensures.same c.change_at.ensures.caches c.change_at-2.ensures.caches

pub returns-in-Err-change_at-clause-keeps : goal.returns-in-Err-change_at-clause-keeps
returns-in-Err-change_at-clause-keeps g c =
    let header = c.args.header.now in
    let t = c.block_tree-tree.result in
    let u = c.node_tree-tree.result in
    keeps-trees (g.W.Outside.view c.args.w.now) (g.W.Outside.view c.change_at.new.w) (g.W.Outside.view c.change_at-2.new.w) header c.args.caches.now c.change_at.new.cache c.change_at-2.new.cache t u
    (tree-is t 0x80 header.bbt header.eof c.block_tree-tree.ensures.kind c.block_tree-tree.ensures.root c.block_tree-tree.ensures.eof) (tree-is u 0x81 header.nbt header.eof c.node_tree-tree.ensures.kind c.node_tree-tree.ensures.root c.node_tree-tree.ensures.eof)
    c.change_at.ensures.same c.change_at-2.ensures.same c.change_at.ensures.caches c.change_at-2.ensures.caches

pub returns-in-Err-change_at-clause-stops : goal.returns-in-Err-change_at-clause-stops
returns-in-Err-change_at-clause-stops g c =
    let old = g.W.Outside.view c.args.w.now in
    let mid = g.W.Outside.view c.change_at.new.w in
    let new = g.W.Outside.view c.change_at-2.new.w in
    let header = c.args.header.now in
    let Whole : Type 0 = AreEdits entry_key 0 (2 ^ 64) c.args.blocks.now × ((m : NodeMap) × TellsNodes old header c.args.caches.now m) in
    let u = c.node_tree-tree.result in
    subst (StopsKeeping old new Whole) (sym c.keep_stop-in-Err-change_at.ensures)
    (node-stops old mid new header c.args.caches.now u (tree-is u 0x81 header.nbt header.eof c.node_tree-tree.ensures.kind c.node_tree-tree.ensures.root c.node_tree-tree.ensures.eof) c.change_at.ensures.same Whole (λ whole. whole.1) c.in-Err-change_at.stop c.in-Err-change_at.ensures.stops)

pub returns-in-Ok-change_at-clause-untouched : goal.returns-in-Ok-change_at-clause-untouched
returns-in-Ok-change_at-clause-untouched g c = untouched_then c.change_at.ensures.same c.change_at-2.ensures.same

pub returns-in-Err-change_at-clause-untouched : goal.returns-in-Err-change_at-clause-untouched
returns-in-Err-change_at-clause-untouched g c = untouched_then c.change_at.ensures.same c.change_at-2.ensures.same
