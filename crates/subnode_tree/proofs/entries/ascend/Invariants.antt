use Rattle.std.proofs.Common.{◌≡◌, drop}
use Rattle.subnode_tree.specs.Subnodes.{ascend, rise_above}
use Rattle.subnode_tree.proofs.entries.ascend.Given as goal

abbrev pub invariant-loop-i : goal.invariant-loop-i
invariant-loop-i l = ascend l.entries ≡ rise_above l.last (drop l.i l.entries)
