use Rattle.std.proofs.Common.{◌≡◌, ◌^◌, ℕ, List, length}
use Rattle.bth_tree.specs.Find.{SumsMaybe}
use Rattle.bth_tree.specs.Records.{ordered}
use Rattle.bth_tree.proofs.OptionLaws.{before}
use Rattle.bth_tree.proofs.find.look_leaf.Given as goal

abbrev pub invariant-loop-rest : goal.invariant-loop-rest
invariant-loop-rest l =
    (so_far : List (ℕ × List ℕ)) × (before so_far (ordered l.k l.e l.low (2 ^ 32) l.rest) ≡ ordered l.k l.e 0 (2 ^ 32) l.fn.x) × SumsMaybe l.key so_far l.sum

abbrev pub decreases-loop-rest : goal.decreases-loop-rest
decreases-loop-rest l = length l.rest
