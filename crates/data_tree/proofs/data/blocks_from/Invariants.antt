use Rattle.std.proofs.Common.{◌≤◌, drop}
use Rattle.data_tree.specs.Tree.{blocks_from}
use Rattle.data_tree.proofs.BlockSteps.{blocks_left}
use Rattle.data_tree.proofs.Steps.{Along}
use Rattle.data_tree.proofs.data.blocks_from.Given as goal

abbrev pub invariant-loop-bid : goal.invariant-loop-bid
invariant-loop-bid g l =
    let eof = (g.S.BlockSource.view l.initial.s).eof in
    (l.left ≤ eof)
    × Along (g.S.BlockSource.view l.initial.s) (g.S.BlockSource.view l.s) l.blocks (λ find. blocks_left find eof l.left (drop l.bid-index l.bids)) (λ find. blocks_from find eof 0 l.bids)
