use Rattle.std.proofs.Common.{◌≡◌, map, take}
use Rattle.column_layout.specs.Layout.{placed}
use Rattle.column_layout.proofs.places.all_placed.Given as goal

-- those so far are placed
abbrev pub invariant-loop-column : goal.invariant-loop-column
invariant-loop-column l = l.all.items ≡ map (placed l.columns) (take l.column-index l.columns)
