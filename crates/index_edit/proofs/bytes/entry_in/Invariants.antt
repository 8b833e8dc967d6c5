use Rattle.std.proofs.Common.{◌≡◌, length}
use Rattle.bth_tree.specs.Records.{entry_of}
use Rattle.index_edit.specs.Rows.{rows}
use Rattle.index_edit.proofs.bytes.entry_in.Given as goal

abbrev pub invariant-loop-rest : goal.invariant-loop-rest
invariant-loop-rest l = entry_of l.key (rows l.fn.x) ≡ entry_of l.key (rows l.rest)

abbrev pub decreases-loop-rest : goal.decreases-loop-rest
decreases-loop-rest l = length l.rest
