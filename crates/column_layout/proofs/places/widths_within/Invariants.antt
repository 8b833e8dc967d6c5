use Rattle.std.proofs.Common.{◌≡◌, ◌+◌, drop}
use Rattle.column_layout.specs.Layout.{widths_where, within_group}
use Rattle.column_layout.proofs.places.widths_within.Given as goal

-- what is left is added
abbrev pub invariant-loop-column : goal.invariant-loop-column
invariant-loop-column l = l.total + widths_where (within_group l.last) (drop l.column-index l.columns) ≡ widths_where (within_group l.last) l.columns
