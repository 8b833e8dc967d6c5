use Rattle.std.proofs.Common.{◌-◌, ◌≤◌, drop, length}
use Rattle.pst_outside.specs.Calls.{Untouched}
use Rattle.file_blocks.specs.Blocks.{file_of}
use Rattle.file_scan.specs.Parts.{AllPlaced}
use Rattle.file_scan.proofs.BlockSteps.{Checking}
use Rattle.file_scan.proofs.blocks.check_blocks.Given as goal

abbrev pub decreases-loop-done : goal.decreases-loop-done
decreases-loop-done g l = length l.blocks - l.done

abbrev pub invariant-loop-done : goal.invariant-loop-done
invariant-loop-done g l = record {
  same : Untouched (g.W.Outside.view l.fn.w) (g.W.Outside.view l.w);
  within : l.done ≤ length l.blocks;
  placed : AllPlaced l.eof (drop l.done l.blocks) → AllPlaced l.eof l.blocks;
  told : (g.W.Outside.view l.w).tells → Checking (file_of (g.W.Outside.view l.fn.w).here) l.eof l.blocks l.done;
}
