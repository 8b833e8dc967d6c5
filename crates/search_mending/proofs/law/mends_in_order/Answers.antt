use Rattle.search_mending.proofs.MendLaws.{mends_in_order}
use Rattle.search_mending.proofs.law.mends_in_order.Goals as goal

pub returns : goal.returns
returns c = mends_in_order
