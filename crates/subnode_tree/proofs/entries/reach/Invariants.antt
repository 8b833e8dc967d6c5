use Rattle.std.proofs.Common.{◌≡◌, drop}
use Rattle.subnode_tree.specs.Subnodes.{reach}
use Rattle.subnode_tree.proofs.entries.reach.Given as goal

abbrev pub invariant-loop-entry : goal.invariant-loop-entry
invariant-loop-entry l = reach l.low.bits (drop l.entry-index l.entries) ≡ reach l.low.bits l.entries
