use Rattle.std.proofs.Common.{◌≤◌, ◌<◌, ◌+◌, ℕ}
use Rattle.heap_on_node.specs.Heap.{offset_of}
use Rattle.heap_edit.proofs.block.has_map.Given as goal

abbrev pub invariant-loop-i : goal.invariant-loop-i
invariant-loop-i l = (j : ℕ) → j < l.i → offset_of l.b j ≤ offset_of l.b (j + 1)
