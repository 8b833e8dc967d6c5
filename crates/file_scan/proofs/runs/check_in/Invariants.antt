use Rattle.std.proofs.Common.{List, ℕ}
use Rattle.file_blocks.specs.Runs.{IsOf}
use Rattle.file_scan.specs.Parts.{AllPlaced}
use Rattle.file_scan.proofs.BlockSteps.{Checking}
use Rattle.file_scan.proofs.runs.check_in.Given as goal

abbrev pub invariant-loop-entry : goal.invariant-loop-entry
invariant-loop-entry l = (file : List ℕ) (eof : ℕ) → AllPlaced eof l.blocks → IsOf file l.run l.bytes → Checking file eof l.blocks l.entry-index
