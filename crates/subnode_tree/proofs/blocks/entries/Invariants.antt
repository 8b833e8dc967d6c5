use Rattle.std.proofs.Common.{◌≡◌, ◌+◌, ◌-◌, ◌*◌, ◌++◌}
use Rattle.pst_base.specs.Fields.{number_at}
use Rattle.subnode_tree.specs.Subnodes.{entries_from, entries_of}
use Rattle.subnode_tree.proofs.blocks.entries.Given as goal

abbrev pub invariant-loop-i : goal.invariant-loop-i
invariant-loop-i l = l.entries.items ++ entries_from l.level (number_at 2 2 l.b - l.i) (8 + 24 * l.i) l.b ≡ entries_of l.level l.b
