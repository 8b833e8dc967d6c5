use Rattle.std.proofs.Common.{◌∙◌, sym, ap}
use Rattle.std.specs.Map.{lookup}
use Rattle.std.specs.Ordering.{nat_cmp}
use Rattle.std.specs.FinMap.{get-empty}
use Rattle.std.specs.BTreeMap.{is_at}
use Rattle.node_port.specs.Slots.{kept}
use Rattle.node_port.proofs.map_keeper.MapKeeper.new.Goals as goal

pub returns-clause-nodes : goal.returns-clause-nodes
returns-clause-nodes c = λ q. get-empty nat_cmp q ∙ ap (λ es. kept (lookup (is_at (nat_cmp q)) es)) (sym c.new.ensures.empty)
