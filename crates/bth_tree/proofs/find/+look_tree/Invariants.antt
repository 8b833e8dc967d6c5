use Rattle.std.proofs.Common.{◌≡◌, ◌-◌, ℕ, List, length}
use Rattle.heap_on_node.specs.Heap.{item}
use Rattle.bth_tree.specs.Find.{SumsMaybe}
use Rattle.bth_tree.specs.Tree.{children, tree}
use Rattle.bth_tree.proofs.OptionLaws.{before}
use Rattle.bth_tree.proofs.find.+look_tree.Given as goal

abbrev pub decreases-look_tree : goal.decreases-look_tree
decreases-look_tree l = l.level

abbrev pub invariant-loop-rest : goal.invariant-loop-rest
invariant-loop-rest l =
    (so_far : List (ℕ × List ℕ))
    × (before so_far (children (tree (item l.h) l.k l.e (l.level - 1)) l.k l.rest) ≡ children (tree (item l.h) l.k l.e (l.level - 1)) l.k l.initial.rest)
    × SumsMaybe l.key so_far l.sum

abbrev pub decreases-loop-rest : goal.decreases-loop-rest
decreases-loop-rest l = length l.rest
