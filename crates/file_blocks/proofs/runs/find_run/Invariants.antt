use Rattle.std.proofs.Common.{◌≡◌, ◌+◌}
use Rattle.file_blocks.specs.Runs.{IsRun}
use Rattle.file_blocks.proofs.runs.find_run.Given as goal

abbrev pub invariant-loop-entry : goal.invariant-loop-entry
invariant-loop-entry l = (l.run.count ≡ l.entry-index + 1) × IsRun l.eof l.entries l.run
