use Rattle.std.proofs.Common.{◌≡◌, ◌++◌, drop}
use Rattle.bth_tree.specs.Making.{AreRecords}
use Rattle.table_writer.specs.Writing.{numbered}
use Rattle.table_writer.proofs.write.index_records.Given as goal

-- the records so far, with the others, are all
abbrev pub invariant-loop-row : goal.invariant-loop-row
invariant-loop-row l = record {
  number : l.n ≡ l.row-index;
  fit : AreRecords 4 4 l.records.items;
  all : l.records.items ++ numbered l.n (drop l.row-index l.rows) ≡ numbered 0 l.rows;
}
