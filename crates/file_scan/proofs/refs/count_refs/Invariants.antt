use Rattle.std.proofs.Common.{◌≡◌, ℕ, List, Option, take}
use Rattle.pst_outside.specs.Calls.{Untouched}
use Rattle.data_tree.specs.Keys.{count_of}
use Rattle.file_blocks.specs.Stops.{Holds}
use Rattle.node_reach.specs.Reach.{uses_of}
use Rattle.file_scan.proofs.refs.count_refs.Given as goal

abbrev pub invariant-loop-node : goal.invariant-loop-node
invariant-loop-node g l =
    Untouched (g.W.Outside.view l.fn.w) (g.W.Outside.view l.w)
    × ((find : ℕ → Option (List ℕ)) → Holds (g.W.Outside.view l.fn.w) l.eof l.blocks find → (key : ℕ) → count_of key l.keys.items ≡ uses_of find key (take l.node-index l.nodes))
