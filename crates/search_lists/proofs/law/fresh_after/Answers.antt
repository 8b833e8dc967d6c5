use Rattle.search_lists.proofs.CommandLaws.{fresh_after}
use Rattle.search_lists.proofs.law.fresh_after.Goals as goal

pub returns : goal.returns
returns c = fresh_after
