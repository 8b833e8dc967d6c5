use Rattle.search_lists.proofs.ListLaws.{lists_all}
use Rattle.search_lists.proofs.law.lists_all.Goals as goal

pub returns : goal.returns
returns c = lists_all
