use Rattle.std.proofs.Common.{◌≡◌, take}
use Rattle.mail_searches.proofs.following.Searches.copy.Given as goal

-- the copies are those of the searches so far
abbrev pub invariant-loop-search : goal.invariant-loop-search
invariant-loop-search l = l.searches.items ≡ take l.search-index l.search-items
