-- What a check of lists answers.
use Rattle.std.specs.Prelude.{◌≡◌, true, Option, None, Some, Result, Ok, Err}
use Rattle.pst_base.specs.declared.ids.Nid.{Nid}
use Rattle.mail_draft.specs.Answers.{IsNoMatter}
use Rattle.mail_draft.specs.declared.stop.Stop.{Stop}
use Rattle.mail_searches.specs.Searches.{IsFresh, Search, find_search, runs}
use Rattle.mail_searches.specs.Searching.{AllFresh, Searching}

-- each running search lists what filtering lists, or this one doesn't
abbrev pub TellsStale : Searching → Option Nid → Type 0
TellsStale X None = AllFresh X.tree X.searches
TellsStale X (Some f) = (s : Search) × (find_search f.bits X.searches ≡ Some s) × (runs s ≡ true) × (IsFresh X.tree s → ⊥)

-- so the answer tells, unless the disk failed or memory ran out
abbrev pub Checks : Searching → Result (Option Nid) Stop → Type 0
Checks X (Ok stale) = TellsStale X stale
Checks X (Err stop) = IsNoMatter stop
