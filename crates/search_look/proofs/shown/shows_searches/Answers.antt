use Rattle.search_look.proofs.Made.{shows_searches}
use Rattle.search_look.proofs.shown.shows_searches.Goals as goal

pub returns : goal.returns
returns c = shows_searches
