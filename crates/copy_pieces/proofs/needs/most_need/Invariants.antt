use Rattle.std.proofs.Common.{◌≡◌, ℕ, max, List, Option, drop}
use Rattle.pst_outside.specs.Calls.{Untouched}
use Rattle.file_blocks.specs.Stops.{Holds}
use Rattle.file_layout.specs.Nodes.{AreNodes, Node}
use Rattle.node_needs.specs.Needs.{needs}
use Rattle.copy_pieces.proofs.needs.most_need.Given as goal

abbrev pub invariant-loop-node : goal.invariant-loop-node
invariant-loop-node g l = record {
  same : Untouched (g.W.Outside.view l.fn.w) (g.W.Outside.view l.w);
  need : (find : ℕ → Option (List ℕ)) (are : List Node) → Holds (g.W.Outside.view l.fn.w) l.eof l.blocks find → AreNodes find l.eof l.nodes are → (rest : List Node) × AreNodes find l.eof (drop l.node-index l.nodes) rest × (needs are ≡ max l.most (needs rest));
}
