use Rattle.search_laws.proofs.Joining.{stays_in_order}
use Rattle.search_laws.proofs.law.stays_in_order.Goals as goal

pub returns : goal.returns
returns c = stays_in_order
