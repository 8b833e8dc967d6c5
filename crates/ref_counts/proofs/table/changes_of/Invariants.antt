use Rattle.std.proofs.Common.{take}
use Rattle.ref_counts.specs.Tables.{refs_in}
use Rattle.ref_counts.proofs.ChangeLaws.{AreFirst}
use Rattle.ref_counts.proofs.table.changes_of.Given as goal

abbrev pub invariant-loop-entry : goal.invariant-loop-entry
invariant-loop-entry l = AreFirst (refs_in l.refs) (refs_in l.taken) (refs_in l.put) (take l.entry-index l.touched) l.changes.items
