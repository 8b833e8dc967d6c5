use Rattle.std.proofs.Common.{◌-◌, ◌≤◌, length, drop}
use Rattle.data_tree.proofs.CountSteps.{Counting}
use Rattle.subnode_tree.specs.Counts.{directs}
use Rattle.subnode_tree.specs.Subnodes.{rows}
use Rattle.subnode_tree.proofs.SubSteps.{sub_row}
use Rattle.subnode_tree.proofs.count.+count_from.Given as goal

abbrev pub invariant-loop-entry : goal.invariant-loop-entry
invariant-loop-entry g l =
    let eof = (g.S.BlockSource.view l.fn.s).eof in
    (l.left ≤ l.room)
    × Counting length (g.S.BlockSource.view l.initial.s) (g.S.BlockSource.view l.s) (l.room - l.left) (λ find. rows (sub_row find eof l.deeper) l.left (drop l.entry-index l.entry-items)) (λ find. rows (sub_row find eof l.deeper) l.room l.entry-items)
    × Counting directs (g.S.BlockSource.view l.initial.s) (g.S.BlockSource.view l.s) l.entry-index (λ find. rows (sub_row find eof l.deeper) l.left (drop l.entry-index l.entry-items)) (λ find. rows (sub_row find eof l.deeper) l.room l.entry-items)

abbrev pub decreases-count_from : goal.decreases-count_from
decreases-count_from g l = l.deeper
