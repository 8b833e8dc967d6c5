use Rattle.std.proofs.Common.{◌≡◌, ◌+◌, length, drop}
use Rattle.data_tree.proofs.Steps.{Along}
use Rattle.subnode_tree.specs.Subnodes.{rows}
use Rattle.subnode_tree.proofs.RowSteps.{row_of}
use Rattle.subnode_tree.proofs.walk.+tree_from.Given as goal

abbrev pub invariant-loop-entry : goal.invariant-loop-entry
invariant-loop-entry g l =
    (l.left + length l.found.items ≡ l.room)
    × Along (g.S.BlockSource.view l.initial.s) (g.S.BlockSource.view l.s) l.found.items (λ find. rows (row_of find l.deeper) l.left (drop l.entry-index l.entry-items)) (λ find. rows (row_of find l.deeper) l.room l.entry-items)

abbrev pub decreases-tree_from : goal.decreases-tree_from
decreases-tree_from g l = l.deeper
