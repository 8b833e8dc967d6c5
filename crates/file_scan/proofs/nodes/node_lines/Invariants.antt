use Rattle.std.proofs.Common.{ℕ, List, Option}
use Rattle.pst_outside.specs.Calls.{Untouched}
use Rattle.file_blocks.specs.Stops.{Holds}
use Rattle.file_scan.proofs.NodeSteps.{Lining}
use Rattle.file_scan.proofs.nodes.node_lines.Given as goal

abbrev pub invariant-loop-node : goal.invariant-loop-node
invariant-loop-node g l =
    Untouched (g.W.Outside.view l.fn.w) (g.W.Outside.view l.w)
    × ((find : ℕ → Option (List ℕ)) → Holds (g.W.Outside.view l.fn.w) l.eof l.blocks find → Lining find l.eof l.nodes l.node-index l.lines.items)
