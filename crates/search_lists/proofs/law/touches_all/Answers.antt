use Rattle.search_lists.proofs.TouchLaws.{touches_all}
use Rattle.search_lists.proofs.law.touches_all.Goals as goal

pub returns : goal.returns
returns c = touches_all
