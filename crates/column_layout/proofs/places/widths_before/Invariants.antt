use Rattle.std.proofs.Common.{◌≡◌, ◌+◌, drop}
use Rattle.column_layout.specs.Layout.{precedes, widths_where}
use Rattle.column_layout.proofs.places.widths_before.Given as goal

-- what is left is added
abbrev pub invariant-loop-other : goal.invariant-loop-other
invariant-loop-other l = l.total + widths_where (precedes l.column) (drop l.other-index l.columns) ≡ widths_where (precedes l.column) l.columns
