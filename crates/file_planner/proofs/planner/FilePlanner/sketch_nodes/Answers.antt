use Rattle.std.proofs.Common.{◌≡◌, ◌∙◌, List, sym, ap, subst}
use Rattle.pst_base.specs.Ids.{key_of}
use Rattle.pst_outside.specs.World.{Image}
use Rattle.btree_pages.specs.declared.entry.BlockEntry.{BlockEntry}
use Rattle.btree_pages.specs.Entries.{block_of}
use Rattle.file_blocks.specs.Blocks.{entry_key, file_of}
use Rattle.file_layout.proofs.Underway.{untouched_then}
use Rattle.file_layout.specs.Nodes.{NodeMap, blocks_in}
use Rattle.file_pages.specs.declared.search.FileTree.{FileTree}
use Rattle.file_pages.specs.Told.{Caches, HasTree}
use Rattle.node_store.specs.Told.{StopsKeeping, TellsNodes}
use Rattle.node_store.proofs.NodeLaws.{has-blocks}
use Rattle.plan_drawing.specs.Recounts.{left_places, recounts}
use Rattle.plan_drawing.proofs.StopLaws.{keeping-later}
use Rattle.plan_drawing.proofs.TreeSteps.{block-stops, block_tree_of, keeps-blocks, tree-is}
use Rattle.file_planner.proofs.planner.FilePlanner.sketch_nodes.Goals as goal

pub returns-in-Err-old_edits-clause-stops : goal.returns-in-Err-old_edits-clause-stops
returns-in-Err-old_edits-clause-stops g c =
    let old = g.W.Outside.view c.args.w.now in
    let mid = g.W.Outside.view c.plan_contents.new.w in
    let new = g.W.Outside.view c.old_edits.new.w in
    let header = c.args.header.now in
    let caches = c.plan_contents.new.caches in
    let t = c.block_tree-tree.result in
    let Whole : Type 0 = (m : NodeMap) × TellsNodes old header c.args.self.now.caches m in
    let Then : Type 0 = (m : NodeMap) × TellsNodes mid header caches m in
    subst (StopsKeeping old new Whole) (sym c.keep_stop.ensures)
    (keeping-later old mid new Whole Then c.plan_contents.ensures.untouched (λ is. (is.0, c.plan_contents.ensures.keeps is.0 is.1)) _
    (block-stops mid new header caches t (tree-is t 0x80 header.bbt header.eof c.block_tree-tree.ensures.kind c.block_tree-tree.ensures.root c.block_tree-tree.ensures.eof) Then (λ is. is) c.in-Err-old_edits.stop c.in-Err-old_edits.ensures.stops))

pub returns-in-Err-old_edits-clause-keeps : goal.returns-in-Err-old_edits-clause-keeps
returns-in-Err-old_edits-clause-keeps g c = λ m tells.
    let header = c.args.header.now in
    let t = c.block_tree-tree.result in
    keeps-blocks (g.W.Outside.view c.plan_contents.new.w) (g.W.Outside.view c.old_edits.new.w) header c.plan_contents.new.caches c.old_edits.new.cache t
    (tree-is t 0x80 header.bbt header.eof c.block_tree-tree.ensures.kind c.block_tree-tree.ensures.root c.block_tree-tree.ensures.eof) c.old_edits.ensures.same c.old_edits.ensures.caches m (c.plan_contents.ensures.keeps m tells)

pub returns-clause-keeps : goal.returns-clause-keeps
returns-clause-keeps g c = λ m tells.
    let header = c.args.header.now in
    let t = c.block_tree-tree.result in
    keeps-blocks (g.W.Outside.view c.plan_contents.new.w) (g.W.Outside.view c.old_edits.new.w) header c.plan_contents.new.caches c.old_edits.new.cache t
    (tree-is t 0x80 header.bbt header.eof c.block_tree-tree.ensures.kind c.block_tree-tree.ensures.root c.block_tree-tree.ensures.eof) c.old_edits.ensures.same c.old_edits.ensures.caches m (c.plan_contents.ensures.keeps m tells)

pub returns-clause-sketched : goal.returns-clause-sketched
returns-clause-sketched g c = λ m tells.
    let old = g.W.Outside.view c.args.w.now in
    let mid = g.W.Outside.view c.plan_contents.new.w in
    let header = c.args.header.now in
    let caches = c.plan_contents.new.caches in
    let t = c.block_tree-tree.result in
    let is_t = tree-is t 0x80 header.bbt header.eof c.block_tree-tree.ensures.kind c.block_tree-tree.ensures.root c.block_tree-tree.ensures.eof in
    let after = c.plan_contents.ensures.keeps m tells in
    let next = c.args.self.now.next_block in
    let refs = c.as_slice-2.result.now in
    let es : List BlockEntry = blocks_in tells.lays.blocks in
    let P : FileTree → Type 0 = λ u. Caches mid u.eof u.kind caches.blocks → (xs : List BlockEntry) → HasTree key_of 24 block_of entry_key (file_of mid.here) u.eof u.kind u.root xs
    → (c.in-Ok-old_edits.old.edits.items ≡ recounts xs next refs) × (c.in-Ok-old_edits.old.left.items ≡ left_places xs next refs) in
    let made : P (block_tree_of header) = subst P is_t c.in-Ok-old_edits.ensures.edits in
    let has : HasTree key_of 24 block_of entry_key (file_of mid.here) header.eof 0x80 header.bbt es =
    subst (λ (i : Image). HasTree key_of 24 block_of entry_key (file_of i) header.eof 0x80 header.bbt es) (sym (c.plan_contents.ensures.untouched.stays.here after.cached.blocks.told.tells)) (has-blocks tells.lays) in
    let both = made after.cached.blocks es has in
    let plan = c.in-Ok.ensures.plan m tells in
    let same = c.as_slice-2.ensures.value in
    record {
      contents = record { taken = _; put = _; contents = plan; changed = c.in_ok-refs.ensures; rise = c.in-Ok.ensures.numbered; node_edits = c.in-Ok.ensures.edits; few = c.in-Ok.ensures.most };
      recounted = both.0 ∙ ap (recounts es next) same;
      left = both.1 ∙ ap (left_places es next) same;
    }

pub returns-in-Err-old_edits-clause-untouched : goal.returns-in-Err-old_edits-clause-untouched
returns-in-Err-old_edits-clause-untouched g c = untouched_then c.plan_contents.ensures.untouched c.old_edits.ensures.same

pub returns-clause-untouched : goal.returns-clause-untouched
returns-clause-untouched g c = untouched_then c.plan_contents.ensures.untouched c.old_edits.ensures.same
