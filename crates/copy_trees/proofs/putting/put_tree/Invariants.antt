use Rattle.std.proofs.Common.{◌/◌}
use Rattle.copy_part.specs.Keeps.{KeepsSource}
use Rattle.packed_tree.specs.Shown.{kids}
use Rattle.copy_trees.specs.Writes.{form}
use Rattle.copy_trees.proofs.WriteLaws.{Written}
use Rattle.copy_trees.proofs.putting.put_tree.Given as goal

abbrev pub invariant-loop-level : goal.invariant-loop-level
invariant-loop-level g l = record {
  keeps : KeepsSource (g.W.Outside.view l.fn.w) (g.W.Outside.view l.w);
  written : Written (form g.E.Entry.rule g.E.Entry.size g.E.Entry.entry_of g.E.Entry.key l.kind) (488 / g.E.Entry.size) l.entries l.pages.levels.items (g.W.Outside.view l.w).tells
      (g.W.Outside.view l.fn.w).here.copy (g.W.Outside.view l.w).here.copy l.level (kids l.children.items);
}
