use Rattle.search_laws.proofs.Setting.{sets_in_order}
use Rattle.search_laws.proofs.law.sets_in_order.Goals as goal

pub returns : goal.returns
returns c = sets_in_order
