use Rattle.std.proofs.Common.{◌≡◌, ◌+◌, ◌-◌, ◌*◌, ◌++◌}
use Rattle.pst_base.specs.Fields.{number_at}
use Rattle.subnode_tree.specs.Subnodes.{listed_from, listed_of}
use Rattle.subnode_tree.proofs.blocks.names.Given as goal

abbrev pub invariant-loop-i : goal.invariant-loop-i
invariant-loop-i l = l.listed.items ++ listed_from (number_at 2 2 l.b - l.i) (8 + 16 * l.i) l.b ≡ listed_of l.b
