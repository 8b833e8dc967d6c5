use Rattle.search_look.proofs.Has.{has_searches}
use Rattle.search_look.proofs.shown.has_searches.Goals as goal

pub returns : goal.returns
returns c = has_searches
