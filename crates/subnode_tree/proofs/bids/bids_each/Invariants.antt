use Rattle.std.proofs.Common.{drop}
use Rattle.data_tree.proofs.Steps.{Along}
use Rattle.subnode_tree.specs.Bids.{bids_each}
use Rattle.subnode_tree.proofs.bids.bids_each.Given as goal

abbrev pub invariant-loop-entry : goal.invariant-loop-entry
invariant-loop-entry g l =
    Along (g.S.BlockSource.view l.initial.s) (g.S.BlockSource.view l.s) l.all.items (λ find. bids_each find (drop l.entry-index l.entries)) (λ find. bids_each find l.entries)
