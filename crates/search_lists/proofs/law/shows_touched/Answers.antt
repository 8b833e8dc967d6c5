use Rattle.search_lists.proofs.RowLaws.{shows_touched}
use Rattle.search_lists.proofs.law.shows_touched.Goals as goal

pub returns : goal.returns
returns c = shows_touched
