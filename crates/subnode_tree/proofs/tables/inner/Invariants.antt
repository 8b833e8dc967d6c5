use Rattle.std.proofs.Common.{◌≡◌, ◌++◌, drop}
use Rattle.subnode_tree.specs.Tables.{inner, listed_bytes}
use Rattle.subnode_tree.proofs.tables.inner.Given as goal

abbrev pub invariant-loop-entry : goal.invariant-loop-entry
invariant-loop-entry l = l.out.items ++ listed_bytes (drop l.entry-index l.listed) ≡ inner l.listed
