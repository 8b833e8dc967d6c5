use Rattle.std.proofs.Common.{◌≡◌, drop}
use Rattle.mail_searches.specs.Searches.{find_search}
use Rattle.search_mends.proofs.listing.find_search.Given as goal

-- none of those before is that of the folder
abbrev pub invariant-loop-search : goal.invariant-loop-search
invariant-loop-search l = find_search l.fn.folder.bits l.search-items ≡ find_search l.fn.folder.bits (drop l.search-index l.search-items)
