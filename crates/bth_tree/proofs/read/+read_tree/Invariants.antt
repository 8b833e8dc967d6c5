use Rattle.std.proofs.Common.{◌≡◌, ◌≤◌, ◌-◌, All, length, map}
use Rattle.heap_on_node.specs.Heap.{item}
use Rattle.bth_tree.specs.Answers.{IsRecord, seen}
use Rattle.bth_tree.specs.Tree.{children, tree}
use Rattle.bth_tree.proofs.OptionLaws.{before}
use Rattle.bth_tree.proofs.read.+read_tree.Given as goal

abbrev pub decreases-read_tree : goal.decreases-read_tree
decreases-read_tree l = l.level

abbrev pub invariant-loop-rest : goal.invariant-loop-rest
invariant-loop-rest l = record {
  start : l.start ≤ length l.out.items;
  each : All (IsRecord l.k l.e) l.out.items;
  so_far : before (map seen l.out.items) (children (tree (item l.h) l.k l.e (l.level - 1)) l.k l.rest)
      ≡ before (map seen l.initial.out.items) (children (tree (item l.h) l.k l.e (l.level - 1)) l.k l.initial.rest);
}

abbrev pub decreases-loop-rest : goal.decreases-loop-rest
decreases-loop-rest l = length l.rest
