use Rattle.std.proofs.Common.{◌≡◌, drop}
use Rattle.std.specs.List.{list_any}
use Rattle.row_edit.specs.Cells.{in_subnode}
use Rattle.row_edit.proofs.pick.has_subnode.Given as goal

-- what is left decides
abbrev pub invariant-loop-column : goal.invariant-loop-column
invariant-loop-column l = list_any (in_subnode l.third l.row) (drop l.column-index l.columns) ≡ list_any (in_subnode l.third l.row) l.columns
