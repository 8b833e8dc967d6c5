-- A block that is laid for a new item.
use Rattle.std.specs.Prelude.{ℕ, List}
use Rattle.heap_on_node.specs.Heap.{IsStart}
use Rattle.heap_edit.specs.Edits.{with_at}
use Rattle.heap_edit.specs.Heaps.{Adds}
use Rattle.heap_edit.specs.Known.{AreKnown, Known, blocks_now}
use Rattle.heap_edit.specs.declared.heap.NewItem.{NewItem}

-- with this block at its position, each heap that agrees with what is known has x as a new item
abbrev pub AddsNew : Known → List ℕ → NewItem → Type 0
AddsNew e x n = (old : List (List ℕ)) → AreKnown e old → IsStart (blocks_now e old) → Adds (blocks_now e old) n.hid x (with_at (blocks_now e old) n.position n.block)
