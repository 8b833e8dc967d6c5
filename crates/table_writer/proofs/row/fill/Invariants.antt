use Rattle.table_writer.specs.Filling.{Filling}
use Rattle.std.proofs.Common.{length}
use Rattle.table_writer.proofs.row.fill.Given as goal

abbrev pub invariant-columns : goal.invariant-columns
invariant-columns l = Filling l.fn.made l.made (length l.fn.front) l.count l.columns l.id l.cells l.i l.j l.front l.marks

abbrev pub decreases-columns : goal.decreases-columns
decreases-columns l = l.i
