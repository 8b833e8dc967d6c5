use Rattle.std.proofs.Common.{◌≡◌, ◌+◌, drop}
use Rattle.column_layout.specs.Layout.{count_where, within_group}
use Rattle.column_layout.proofs.places.count_cells.Given as goal

-- what is left is added
abbrev pub invariant-loop-column : goal.invariant-loop-column
invariant-loop-column l = l.count + count_where (within_group 2) (drop l.column-index l.columns) ≡ count_where (within_group 2) l.columns
