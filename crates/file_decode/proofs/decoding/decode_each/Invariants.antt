use Rattle.std.proofs.Common.{◌≡◌, ◌≤◌, drop, take, count_by}
use Rattle.file_blocks.specs.Blocks.{AllStand, file_of}
use Rattle.file_scan.specs.Parts.{AllPlaced}
use Rattle.file_decode.specs.Decoding.{is_data, with_blocks}
use Rattle.copy_part.specs.Keeps.{KeepsSource}
use Rattle.file_decode.proofs.decoding.decode_each.Given as goal

abbrev pub invariant-loop-entry : goal.invariant-loop-entry
invariant-loop-entry g l = record {
  keeps : KeepsSource (g.W.Outside.view l.fn.w) (g.W.Outside.view l.w);
  placed : AllPlaced l.eof (drop l.entry-index l.blocks);
  stand : (g.W.Outside.view l.fn.w).tells → AllStand (file_of (g.W.Outside.view l.fn.w).here) l.eof (drop l.entry-index l.blocks);
  few : l.count ≤ l.entry-index;
  count : l.count ≡ count_by is_data (take l.entry-index l.blocks);
  copy : (g.W.Outside.view l.w).tells → with_blocks l.method (file_of (g.W.Outside.view l.fn.w).here) (drop l.entry-index l.blocks) (g.W.Outside.view l.w).here.copy
      ≡ with_blocks l.method (file_of (g.W.Outside.view l.fn.w).here) l.blocks (g.W.Outside.view l.fn.w).here.copy;
}
