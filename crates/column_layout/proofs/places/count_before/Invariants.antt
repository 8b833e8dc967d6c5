use Rattle.std.proofs.Common.{◌≡◌, ◌+◌, drop}
use Rattle.column_layout.specs.Layout.{count_where, precedes}
use Rattle.column_layout.proofs.places.count_before.Given as goal

-- what is left is added
abbrev pub invariant-loop-other : goal.invariant-loop-other
invariant-loop-other l = l.count + count_where (precedes l.column) (drop l.other-index l.columns) ≡ count_where (precedes l.column) l.columns
