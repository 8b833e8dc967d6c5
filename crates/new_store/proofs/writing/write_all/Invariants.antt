use Rattle.std.proofs.Common.{take}
use Rattle.new_store.specs.Entries.{AreNodesOf}
use Rattle.new_store.proofs.writing.write_all.Given as goal

abbrev pub invariant-loop-entry : goal.invariant-loop-entry
invariant-loop-entry l = AreNodesOf (take l.entry-index l.entries) l.nodes.items
