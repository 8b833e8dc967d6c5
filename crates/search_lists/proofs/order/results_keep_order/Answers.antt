use Rattle.search_lists.proofs.AfterOrder.{results_keep_order}
use Rattle.search_lists.proofs.order.results_keep_order.Goals as goal

pub returns : goal.returns
returns c = results_keep_order
