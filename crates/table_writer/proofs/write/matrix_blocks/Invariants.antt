use Rattle.std.proofs.Common.{length}
use Rattle.table_writer.proofs.MatrixLaws.{Cuts}
use Rattle.table_writer.proofs.write.matrix_blocks.Given as goal

abbrev pub invariant-cutting : goal.invariant-cutting
invariant-cutting l = Cuts l.per l.rows l.blocks l.rest

abbrev pub decreases-cutting : goal.decreases-cutting
decreases-cutting l = length l.rest
