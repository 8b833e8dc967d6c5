use Rattle.search_lists.proofs.AfterOrder.{settling_keeps_order}
use Rattle.search_lists.proofs.order.settling_keeps_order.Goals as goal

pub returns : goal.returns
returns c = settling_keeps_order
