use Rattle.std.proofs.Common.{◌≡◌, drop}
use Rattle.subnode_tree.specs.Subnodes.{listed_ascend, listed_rise}
use Rattle.subnode_tree.proofs.entries.listed_ascend.Given as goal

abbrev pub invariant-loop-i : goal.invariant-loop-i
invariant-loop-i l = listed_ascend l.all ≡ listed_rise l.last (drop l.i l.all)
