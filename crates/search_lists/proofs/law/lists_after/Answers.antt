use Rattle.search_lists.proofs.CommandLaws.{lists_after}
use Rattle.search_lists.proofs.law.lists_after.Goals as goal

pub returns : goal.returns
returns c = lists_after
