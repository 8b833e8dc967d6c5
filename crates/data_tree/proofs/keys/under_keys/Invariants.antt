use Rattle.std.proofs.Common.{drop}
use Rattle.data_tree.specs.Keys.{under_keys}
use Rattle.data_tree.proofs.Steps.{Along}
use Rattle.data_tree.proofs.keys.under_keys.Given as goal

abbrev pub invariant-loop-bid : goal.invariant-loop-bid
invariant-loop-bid g l =
    Along (g.S.BlockSource.view l.initial.s) (g.S.BlockSource.view l.s) l.keys.items (λ find. under_keys find l.parent (drop l.bid-index l.bids)) (λ find. under_keys find l.parent l.bids)
