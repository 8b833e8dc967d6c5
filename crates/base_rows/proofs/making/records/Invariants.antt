use Rattle.std.proofs.Common.{◌≡◌, true, length}
use Rattle.bth_tree.specs.Making.{AreRecords}
use Rattle.bth_tree.specs.Records.{within}
use Rattle.base_rows.proofs.making.records.Given as goal

abbrev pub invariant-loop-key : goal.invariant-loop-key
invariant-loop-key l = record {
  records : AreRecords 2 6 l.recs.items;
  ascend : within 0 l.key l.recs.items ≡ true;
  count : length l.recs.items ≡ l.key;
}
