use Rattle.std.proofs.Common.{◌≡◌, ℕ, ◌^◌, ◌++◌, List, Option, sym, subst}
use Rattle.pst_base.specs.declared.ids.Bid.{Bid}
use Rattle.btree_pages.specs.declared.entry.BlockEntry.{BlockEntry}
use Rattle.btree_pages.specs.declared.entry.NodeEntry.{NodeEntry}
use Rattle.file_blocks.specs.Blocks.{entry_key, file_of}
use Rattle.file_layout.specs.Nodes.{NodeMap}
use Rattle.file_pages.proofs.SourceLaws.{untouched-same}
use Rattle.node_layout.specs.Sealed.{AreSealed}
use Rattle.node_store.specs.Told.{TellsNodes}
use Rattle.tree_edit.specs.Edits.{AreEdits}
use Rattle.plan_drawing.specs.Recounts.{puts_of}
use Rattle.plan_drawing.specs.Trees.{ArePlanned}
use Rattle.plan_drawing.proofs.StopLaws.{keeping-later}
use Rattle.plan_placing.specs.Draws.{CanDraw}
use Rattle.plan_placing.proofs.PlaceSteps.{all-put, can-edits}
use Rattle.plan_placing.proofs.place.build.Goals as goal

pub returns-clause-stops : goal.returns-clause-stops
returns-clause-stops g c = λ numbers free.
    let old = g.W.Outside.view c.args.w.now in
    let new = g.W.Outside.view c.change_trees.new.w in
    let header = c.args.header.now in
    let caches = c.args.caches.now in
    let sketch = c.args.sketch.now in
    let before = c.args.edits.items in
    let edits = c.as_slice-3.result.now in
    let entries = c.in_ok-entries.entries.items in
    let same : edits ≡ before ++ puts_of entries = all-put before edits c.put_entries.new.edits.items c.as_slice-2.result.now entries c.as_slice-3.ensures.value c.in_ok-put_entries.ensures c.as_slice-2.ensures.value in
    let sealed : AreSealed sketch.blocks.items entries c.in_ok-entries.pieces.items = subst (λ (bs : List (Bid × List ℕ)). AreSealed bs entries c.in_ok-entries.pieces.items) c.as_slice.ensures.value c.in_ok-entries.ensures.sealed in
    keeping-later old old new (CanDraw old header caches numbers sketch before free) (AreEdits entry_key 0 (2 ^ 64) edits × ((m : NodeMap) × TellsNodes old header caches m)) (untouched-same old)
    (λ can. (subst (AreEdits entry_key 0 (2 ^ 64)) (sym same) (can-edits can entries c.in_ok-entries.pieces.items sealed), (can.m, can.tells)))
    c.in-Err.stop c.in-Err.ensures.stops

pub returns-in-Ok-clause-built : goal.returns-in-Ok-clause-built
returns-in-Ok-clause-built g c = λ both.
    let file = file_of (g.W.Outside.view c.args.w.now).here in
    let header = c.args.header.now in
    let sketch = c.args.sketch.now in
    let before = c.args.edits.items in
    let edits = c.as_slice-3.result.now in
    let entries = c.in_ok-entries.entries.items in
    let pieces = c.in_ok-entries.pieces.items in
    let trees = c.in-Ok.trees in
    let same : edits ≡ before ++ puts_of entries = all-put before edits c.put_entries.new.edits.items c.as_slice-2.result.now entries c.as_slice-3.ensures.value c.in_ok-put_entries.ensures c.as_slice-2.ensures.value in
    record {
      entries = entries;
      sealed = subst (λ (bs : List (Bid × List ℕ)). AreSealed bs entries pieces) c.as_slice.ensures.value c.in_ok-entries.ensures.sealed;
      of_entries = c.in_ok-entries.ensures.entries;
      planned = subst (λ (ds : List (ℕ × Option BlockEntry)). ArePlanned header file ds sketch.nodes.items trees) same
          (subst (λ (ns : List (ℕ × Option NodeEntry)). ArePlanned header file edits ns trees) c.as_slice-nodes.ensures.value (c.in-Ok.ensures.plans both));
    }
