use Rattle.std.proofs.Common.{◌≡◌, take}
use Rattle.ref_counts.specs.Tables.{refs_in}
use Rattle.copy_pieces.specs.Moved.{reached}
use Rattle.copy_pieces.proofs.placing.choose.Given as goal

abbrev pub invariant-loop-entry : goal.invariant-loop-entry
invariant-loop-entry l = l.chosen.items ≡ reached (refs_in l.refs) (take l.entry-index l.entries)
