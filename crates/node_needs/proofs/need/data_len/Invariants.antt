use Rattle.std.proofs.Common.{◌≤◌, ◌-◌, ℕ, List, Option, drop}
use Rattle.data_tree.specs.Measure.{bytes_in}
use Rattle.node_needs.specs.Named.{AllNamed}
use Rattle.node_needs.proofs.StepLaws.{Left}
use Rattle.node_needs.proofs.need.data_len.Given as goal

abbrev pub invariant-loop-id : goal.invariant-loop-id
invariant-loop-id g l = record {
  low : l.left ≤ l.limit;
  left : (find : ℕ → Option (List ℕ)) (bs : List (List ℕ)) → (g.S.BlockSource.view l.s).holds find → AllNamed find l.ids bs → bytes_in bs ≤ l.limit → Left find (drop l.id-index l.ids) bs (l.limit - l.left);
}
