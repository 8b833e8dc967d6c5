use Rattle.std.proofs.Common.{◌≡◌, ◌++◌, drop}
use Rattle.heap_on_node.specs.Layout.{laid}
use Rattle.heap_on_node.proofs.maker.blocks_of.Given as goal

abbrev pub invariant-loop-k : goal.invariant-loop-k
invariant-loop-k l = l.blocks.items ++ laid l.k l.client l.root (drop l.k l.drafts) ≡ laid 0 l.client l.root l.drafts
