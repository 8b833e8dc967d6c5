use Rattle.std.proofs.Common.{length}
use Rattle.row_edit.specs.Cells.{Filled}
use Rattle.row_edit.proofs.lay.fill.Given as goal

abbrev pub invariant-loop-i : goal.invariant-loop-i
invariant-loop-i l = Filled (length l.fn.front) l.count l.id l.values l.columns l.ids l.i l.front l.marks
