use Rattle.copy_part.specs.Keeps.{KeepsSource}
use Rattle.copy_pieces.specs.Fixed.{AddsFixed}
use Rattle.copy_pieces.proofs.fixed.put_fixed.Given as goal

abbrev pub invariant-loop-r : goal.invariant-loop-r
invariant-loop-r g l = record {
  keeps : KeepsSource (g.W.Outside.view l.fn.w) (g.W.Outside.view l.w);
  copy : (g.W.Outside.view l.w).tells → AddsFixed l.slots l.r (g.W.Outside.view l.fn.w).here.copy (g.W.Outside.view l.w).here.copy;
}
