use Rattle.std.proofs.Common.{◌≡◌, ◌++◌, drop}
use Rattle.subnode_tree.specs.Tables.{leaf, rows_bytes}
use Rattle.subnode_tree.proofs.tables.leaf.Given as goal

abbrev pub invariant-loop-row : goal.invariant-loop-row
invariant-loop-row l = l.out.items ++ rows_bytes (drop l.row-index l.rows) ≡ leaf l.rows
