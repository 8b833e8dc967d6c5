-- `criteria` leaves all in order, and a new store is in order.
use Rattle.search_lists.proofs.AfterOrder.{results_keep_order}
use Rattle.search_laws.specs.Laws.{SetsInOrder, StartsInOrder}
use Rattle.search_laws.proofs.SettingStart.{starts_so}
use Rattle.search_laws.proofs.SettingSteps.{sets_keeping}

-- criteria that a search gets leave all in order
pub sets_in_order : SetsInOrder
sets_in_order = sets_keeping results_keep_order

-- a new store is in order
pub starts_in_order : StartsInOrder
starts_in_order = starts_so
