use Rattle.std.proofs.Common.{take}
use Rattle.copy_part.specs.Keeps.{KeepsSource}
use Rattle.file_blocks.specs.Blocks.{file_of}
use Rattle.copy_pieces.specs.Writes.{AddsBlocks}
use Rattle.copy_pieces.proofs.blocks.copy_blocks.Given as goal

abbrev pub invariant-loop-i : goal.invariant-loop-i
invariant-loop-i g l = record {
  keeps : KeepsSource (g.W.Outside.view l.fn.w) (g.W.Outside.view l.w);
  copy : (g.W.Outside.view l.w).tells → AddsBlocks (file_of (g.W.Outside.view l.fn.w).here) (take l.i l.olds) (take l.i l.news) (g.W.Outside.view l.fn.w).here.copy (g.W.Outside.view l.w).here.copy;
}
