use Rattle.search_mending.proofs.AllLaws.{mends_all}
use Rattle.search_mending.proofs.law.mends_all.Goals as goal

pub returns : goal.returns
returns c = mends_all
