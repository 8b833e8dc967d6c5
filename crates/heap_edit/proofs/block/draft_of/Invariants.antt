use Rattle.std.proofs.Common.{◌≡◌, take}
use Rattle.heap_edit.specs.Items.{items_of}
use Rattle.heap_edit.proofs.block.draft_of.Given as goal

abbrev pub invariant-loop-j : goal.invariant-loop-j
invariant-loop-j l = l.draft ≡ take l.j (items_of l.b)
