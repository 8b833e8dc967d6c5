use Rattle.std.proofs.Common.{List, refl}
use Rattle.btree_pages.specs.declared.entry.BlockEntry.{BlockEntry}
use Rattle.file_layout.proofs.Underway.{untouched_then}
use Rattle.file_pages.specs.Told.{Caches}
use Rattle.plan_drawing.proofs.StopLaws.{unless-later}
use Rattle.file_planner.proofs.OldLaws.{HasEntries, editing-more, entries-still}
use Rattle.file_planner.proofs.old.old_edits.Goals as goal

pub loop-change-preserved : goal.loop-change-preserved
loop-change-preserved g c =
    editing-more (g.W.Outside.view c.args.w.now) (g.W.Outside.view c.loop-change.w) (g.W.Outside.view c.edit_change.new.w) c.args.tree c.args.cache.now c.loop-change.cache c.edit_change.new.cache c.args.next c.loop-change.change-index c.args.changes.now _ _
    c.loop-change.old.edits.items c.edit_change.new.old.edits.items c.loop-change.old.left.items c.edit_change.new.old.left.items
    c.loop-change-test.true refl c.edit_change.ensures.same c.edit_change.ensures.caches c.in-Ok.ensures.made c.loop-change.invariant

pub returns-in-Err-clause-stops : goal.returns-in-Err-clause-stops
returns-in-Err-clause-stops g c =
    let old = g.W.Outside.view c.args.w.now in
    let mid = g.W.Outside.view c.loop-change.w in
    let new = g.W.Outside.view c.edit_change.new.w in
    let tree = c.args.tree in
    let Whole : Type 0 = Caches old tree.eof tree.kind c.args.cache.now × ((es : List BlockEntry) × HasEntries old tree es) in
    let Then : Type 0 = Caches mid tree.eof tree.kind c.loop-change.cache × ((es : List BlockEntry) × HasEntries mid tree es) in
    unless-later old mid new Whole Then c.loop-change.invariant.same
    (λ is. let there = c.loop-change.invariant.caches is.0 in (there, (is.1.0, entries-still tree is.1.0 c.loop-change.invariant.same there.told.tells is.1.1)))
    c.in-Err.stop c.in-Err.ensures.stops

pub returns-in-Err-clause-same : goal.returns-in-Err-clause-same
returns-in-Err-clause-same g c = untouched_then c.loop-change.invariant.same c.edit_change.ensures.same
