use Rattle.std.proofs.Common.{◌≡◌, take}
use Rattle.search_mending.specs.Mending.{with_stood}
use Rattle.search_mends.proofs.listing.with_stood.Given as goal

-- the rows so far
abbrev pub invariant-loop-row : goal.invariant-loop-row
invariant-loop-row l = l.rows.items ≡ with_stood l.stood.rows (take l.row-index l.built)
