use Rattle.std.proofs.Common.{length}
use Rattle.index_edit.proofs.RowLaws.{Reached}
use Rattle.index_edit.proofs.bytes.place_of.Given as goal

abbrev pub invariant-loop-rest : goal.invariant-loop-rest
invariant-loop-rest l = Reached l.key l.fn.x l.rest l.index

abbrev pub decreases-loop-rest : goal.decreases-loop-rest
decreases-loop-rest l = length l.rest
