use Rattle.std.proofs.Common.{◌≡◌, ◌≤◌, ◌+◌, ◌-◌, ◌*◌, ◌^◌, ℕ, length}
use Rattle.tree_edit.specs.Shapes.{RiseIn}
use Rattle.tree_edit.specs.Plans.{AreKeys, AreWritable, keys_of}
use Rattle.tree_edit.proofs.PackLaws.{InnersSoFar}
use Rattle.tree_edit.proofs.pack.pack_inners.Given as goal

abbrev pub invariant-loop-rest : goal.invariant-loop-rest
invariant-loop-rest g l = record {
  so_far : InnersSoFar g.E.Entry.key l.level l.fn.pages.items l.pages.items l.out.items l.children l.rest;
  rises : RiseIn 0 (2 ^ 64) (keys_of l.rest);
  keys : AreKeys g.E.Entry.rule (keys_of l.out.items);
  left : AreKeys g.E.Entry.rule (keys_of l.rest);
  writable : AreWritable g.E.Entry.key g.E.Entry.rule g.E.Entry.size l.fn.pages.items → AreWritable g.E.Entry.key g.E.Entry.rule g.E.Entry.size l.pages.items;
  grows : length l.pages.items ≡ length l.fn.pages.items + length l.out.items;
  within : length l.rest ≤ length l.children;
  few : (k : ℕ) → length l.children ≤ k * l.most → (length l.out.items ≤ k) × (length l.rest ≤ (k - length l.out.items) * l.most);
  some : 1 ≤ length l.children → 1 ≤ length l.out.items + length l.rest;
}

abbrev pub decreases-loop-rest : goal.decreases-loop-rest
decreases-loop-rest g l = length l.rest
