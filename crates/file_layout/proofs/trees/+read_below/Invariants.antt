use Rattle.pst_outside.specs.Calls.{Untouched}
use Rattle.file_layout.specs.Trees.{AllPages, tree_in}
use Rattle.file_layout.specs.Walk.{AddsReached}
use Rattle.file_layout.proofs.Underway.{depth_of, Underway}
use Rattle.file_layout.proofs.trees.+read_below.Given as goal

abbrev pub decreases-read_below : goal.decreases-read_below
decreases-read_below g l = depth_of l.seat.level

abbrev pub invariant-loop-i : goal.invariant-loop-i
invariant-loop-i g l = record {
  placed : AllPages l.fn.eof l.fn.pages.items → AllPages l.fn.eof l.pages.items;
  same : Untouched (g.W.Outside.view l.fn.w) (g.W.Outside.view l.w);
  so_far : (g.W.Outside.view l.w).tells
      → Underway g.E.Entry.entry_of (tree_in (g.W.Outside.view l.fn.w).here l.fn.eof l.fn.kind g.E.Entry.size g.E.Entry.rule) l.fn.seat l.page l.i l.fn.entries.items l.entries.items l.fn.pages.items l.pages.items;
  reached : (g.W.Outside.view l.w).tells → AddsReached g.E.Entry.entry_of (tree_in (g.W.Outside.view l.fn.w).here l.fn.eof l.fn.kind g.E.Entry.size g.E.Entry.rule) l.fn.seat l.fn.entries.items l.entries.items;
}
