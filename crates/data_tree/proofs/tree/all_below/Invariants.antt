use Rattle.std.proofs.Common.{drop}
use Rattle.data_tree.specs.Tree.{all_below}
use Rattle.data_tree.proofs.Steps.{Along}
use Rattle.data_tree.proofs.tree.all_below.Given as goal

abbrev pub invariant-loop-bid : goal.invariant-loop-bid
invariant-loop-bid g l =
    Along (g.S.BlockSource.view l.initial.s) (g.S.BlockSource.view l.s) l.found.items (λ find. all_below find l.parent (drop l.bid-index l.bids)) (λ find. all_below find l.parent l.bids)
