use Rattle.std.proofs.Common.{◌≡◌, drop, max}
use Rattle.search_folders.specs.Pieces.{greatest_row}
use Rattle.search_folders.proofs.indexes.greatest_row.Given as goal

-- the greatest so far, with that of the rest, is the greatest
abbrev pub invariant-loop-row : goal.invariant-loop-row
invariant-loop-row l = max l.greatest (greatest_row (drop l.row-index l.rows)) ≡ greatest_row l.rows
