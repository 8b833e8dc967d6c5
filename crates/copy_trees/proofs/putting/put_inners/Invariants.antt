use Rattle.std.proofs.Common.{◌^◌}
use Rattle.copy_part.specs.Keeps.{KeepsSource}
use Rattle.tree_edit.specs.Plans.{AreKeys}
use Rattle.tree_edit.specs.Shapes.{RiseIn}
use Rattle.packed_tree.specs.Shown.{keys, kids}
use Rattle.copy_trees.specs.Writes.{form}
use Rattle.copy_trees.proofs.WriteLaws.{Begun, key_of, shows_inner}
use Rattle.copy_trees.proofs.putting.put_inners.Given as goal

abbrev pub invariant-loop-at : goal.invariant-loop-at
invariant-loop-at g l = record {
  keeps : KeepsSource (g.W.Outside.view l.fn.w) (g.W.Outside.view l.w);
  rises : RiseIn 0 (2 ^ 64) (keys l.rest);
  steady : AreKeys g.E.Entry.rule (keys l.rest);
  begun : Begun (form g.E.Entry.rule g.E.Entry.size g.E.Entry.entry_of g.E.Entry.key l.kind) (shows_inner l.level) key_of 20 l.below l.ats (g.W.Outside.view l.w).tells
      (g.W.Outside.view l.fn.w).here.copy (g.W.Outside.view l.w).here.copy l.at-index l.rest (kids l.children.items);
}
