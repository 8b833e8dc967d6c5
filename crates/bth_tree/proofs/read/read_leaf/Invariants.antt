use Rattle.std.proofs.Common.{◌≡◌, ◌^◌, All, length, map}
use Rattle.bth_tree.specs.Answers.{IsRecord, seen}
use Rattle.bth_tree.specs.Records.{ordered}
use Rattle.bth_tree.proofs.OptionLaws.{before}
use Rattle.bth_tree.proofs.read.read_leaf.Given as goal

abbrev pub invariant-loop-rest : goal.invariant-loop-rest
invariant-loop-rest l = record {
  so_far : before (map seen l.out.items) (ordered l.k l.e l.low (2 ^ 32) l.rest) ≡ before (map seen l.fn.out.items) (ordered l.k l.e 0 (2 ^ 32) l.fn.x);
  each : All (IsRecord l.k l.e) l.out.items;
}

abbrev pub decreases-loop-rest : goal.decreases-loop-rest
decreases-loop-rest l = length l.rest
