use Rattle.std.proofs.Common.{◌<◌, ℕ, [], get_or}
use Rattle.heap_on_node.specs.Heap.{HasMap}
use Rattle.heap_on_node.proofs.view.HeapView.read.Given as goal

abbrev pub invariant-loop-block : goal.invariant-loop-block
invariant-loop-block l = (k : ℕ) → k < l.block-index → HasMap (get_or l.blocks k [])
