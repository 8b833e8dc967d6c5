use Rattle.std.proofs.Common.{◌≡◌}
use Rattle.pst_base.specs.Cells.{Fit, written}
use Rattle.pst_header.specs.Format.{index_cells}
use Rattle.pst_header.proofs.fields.put_indexes.Given as goal

abbrev pub invariant-loop-kind : goal.invariant-loop-kind
invariant-loop-kind l = record {
  written : l.b ≡ written (index_cells l.indexes l.kind) l.initial.b;
  fits : Fit 564 (index_cells l.indexes l.kind);
}
