use Rattle.std.proofs.Common.{length}
use Rattle.index_edit.proofs.RowLaws.{Scanned}
use Rattle.index_edit.proofs.bytes.span_of.Given as goal

abbrev pub invariant-loop-rest : goal.invariant-loop-rest
invariant-loop-rest l = Scanned l.key l.fn.x l.rest l.from

abbrev pub decreases-loop-rest : goal.decreases-loop-rest
decreases-loop-rest l = length l.rest
