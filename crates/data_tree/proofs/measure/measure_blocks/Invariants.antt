use Rattle.std.proofs.Common.{◌≤◌, ◌-◌, drop}
use Rattle.data_tree.specs.Measure.{bytes_in}
use Rattle.data_tree.specs.Tree.{blocks_from}
use Rattle.data_tree.proofs.BlockSteps.{blocks_left}
use Rattle.data_tree.proofs.CountSteps.{Counting}
use Rattle.data_tree.proofs.measure.measure_blocks.Given as goal

abbrev pub invariant-loop-bid : goal.invariant-loop-bid
invariant-loop-bid g l =
    let eof = (g.S.BlockSource.view l.s).eof in
    (l.left ≤ eof)
    × Counting bytes_in (g.S.BlockSource.view l.s) (g.S.BlockSource.view l.s) (eof - l.left) (λ find. blocks_left find eof l.left (drop l.bid-index l.bids)) (λ find. blocks_from find eof 0 l.bids)
