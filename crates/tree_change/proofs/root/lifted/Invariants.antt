use Rattle.std.proofs.Common.{◌-◌, ◌≡◌, ◌⊎◌, ◌≤◌, ◌+◌, ◌*◌, ◌^◌, ℕ, List, length}
use Rattle.tree_edit.specs.Shapes.{RiseIn}
use Rattle.tree_edit.specs.Plans.{AreKeys, AreWritable, keys_of}
use Rattle.tree_edit.specs.Steps.{Lifts}
use Rattle.tree_change.specs.Tops.{Narrows, room}
use Rattle.tree_change.proofs.AnewLaws.{Within}
use Rattle.tree_change.proofs.root.lifted.Given as goal

abbrev pub invariant-up : goal.invariant-up
invariant-up g l = record {
  lifts : Lifts g.E.Entry.key l.fn.level l.level l.fn.pages.items l.pages.items l.fn.children.items l.children.items;
  low : l.level ≤ 7;
  rises : RiseIn 0 (2 ^ 64) (keys_of l.children.items);
  keys : AreKeys g.E.Entry.rule (keys_of l.children.items);
  writable : AreWritable g.E.Entry.key g.E.Entry.rule g.E.Entry.size l.fn.pages.items → AreWritable g.E.Entry.key g.E.Entry.rule g.E.Entry.size l.pages.items;
  some : 1 ≤ length l.fn.children.items → 1 ≤ length l.children.items;
  plain : length l.pages.items + length l.children.items ≤ length l.fn.pages.items + length l.fn.children.items;
  grown : (e : ℕ) → length l.fn.children.items ≤ 20 + e
      → ((length l.pages.items ≡ length l.fn.pages.items) × (length l.children.items ≡ length l.fn.children.items)) ⊎ (length l.pages.items + length l.children.items ≤ length l.fn.pages.items + 2 + 2 * e);
  narrow : (n u : ℕ) (ms : List ℕ) → Narrows n ms → length l.fn.children.items ≤ n + u → Within u (length l.children.items) (length l.pages.items) (length l.fn.pages.items + room u ms);
  many : length l.fn.children.items ≤ 20 ^ (7 - l.fn.level) → length l.children.items ≤ 20 ^ (7 - l.level);
}

abbrev pub decreases-up : goal.decreases-up
decreases-up g l = 8 - l.level
