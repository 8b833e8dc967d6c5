use Rattle.search_lists.proofs.SettleLaws.{settles_all}
use Rattle.search_lists.proofs.law.settles_all.Goals as goal

pub returns : goal.returns
returns c = settles_all
