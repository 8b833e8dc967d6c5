use Rattle.search_lists.proofs.ShowLaws.{shows_after}
use Rattle.search_lists.proofs.law.shows_after.Goals as goal

pub returns : goal.returns
returns c = shows_after
