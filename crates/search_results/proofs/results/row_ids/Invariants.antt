use Rattle.std.proofs.Common.{◌≡◌, ◌++◌, drop}
use Rattle.mail_searches.specs.Searches.{row_ids}
use Rattle.search_results.proofs.results.row_ids.Given as goal

-- the ids so far, with those of the other rows, are all
abbrev pub invariant-loop-row : goal.invariant-loop-row
invariant-loop-row l = l.ids.items ++ row_ids (drop l.row-index l.row-items) ≡ row_ids l.row-items
