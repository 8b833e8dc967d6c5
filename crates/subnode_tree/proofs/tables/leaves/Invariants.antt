use Rattle.std.proofs.Common.{◌≡◌, ◌+◌, ◌*◌, ◌≤◌, ◌++◌, length, map}
use Rattle.data_tree.specs.Plan.{cut, numbered}
use Rattle.subnode_tree.specs.Tables.{leaf, leaves, listed_as}
use Rattle.subnode_tree.proofs.tables.leaves.Given as goal

abbrev pub invariant-loop-rest : goal.invariant-loop-rest
invariant-loop-rest l = record {
  made : l.blocks.items ++ numbered 2 l.bits (map leaf (cut 340 l.rest)) ≡ leaves l.next l.rows;
  listing : l.listed.items ++ listed_as l.bits (cut 340 l.rest) ≡ listed_as l.next (cut 340 l.rows);
  room : l.bits + 4 * length l.rest ≤ l.next + 4 * length l.rows;
}

abbrev pub decreases-loop-rest : goal.decreases-loop-rest
decreases-loop-rest l = length l.rest
