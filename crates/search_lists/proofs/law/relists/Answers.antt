use Rattle.search_lists.proofs.FollowLaws.{relists}
use Rattle.search_lists.proofs.law.relists.Goals as goal

pub returns : goal.returns
returns c = relists
