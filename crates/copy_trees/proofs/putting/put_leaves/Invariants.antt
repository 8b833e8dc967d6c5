use Rattle.std.proofs.Common.{◌<◌, ◌/◌, ◌^◌, length, map}
use Rattle.copy_part.specs.Keeps.{KeepsSource}
use Rattle.tree_edit.specs.Plans.{AreKeys}
use Rattle.tree_edit.specs.Shapes.{RiseIn, leaf}
use Rattle.packed_tree.specs.Shown.{keys, kids}
use Rattle.copy_trees.specs.Writes.{form}
use Rattle.copy_trees.proofs.WriteLaws.{Begun}
use Rattle.copy_trees.proofs.putting.put_leaves.Given as goal

abbrev pub invariant-loop-at : goal.invariant-loop-at
invariant-loop-at g l = record {
  keeps : KeepsSource (g.W.Outside.view l.fn.w) (g.W.Outside.view l.w);
  rises : RiseIn 0 (2 ^ 64) (map g.E.Entry.key l.rest);
  steady : 0 < length l.entries → AreKeys g.E.Entry.rule (keys l.children.items);
  begun : Begun (form g.E.Entry.rule g.E.Entry.size g.E.Entry.entry_of g.E.Entry.key l.kind) leaf g.E.Entry.key (488 / g.E.Entry.size) l.entries l.ats (g.W.Outside.view l.w).tells
      (g.W.Outside.view l.fn.w).here.copy (g.W.Outside.view l.w).here.copy l.at-index l.rest (kids l.children.items);
}
