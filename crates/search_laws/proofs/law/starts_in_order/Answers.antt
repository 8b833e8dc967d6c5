use Rattle.search_laws.proofs.Setting.{starts_in_order}
use Rattle.search_laws.proofs.law.starts_in_order.Goals as goal

pub returns : goal.returns
returns c = starts_in_order
