use Rattle.std.proofs.Common.{◌^◌, length, ap, arith}
use Rattle.std.proofs.lemmas.List.{length_push}
use Rattle.bth_tree.proofs.MakeLaws.{AreRecords-push, within-high, within-push}
use Rattle.base_rows.proofs.making.records.Goals as goal

pub loop-key-preserved : goal.loop-key-preserved
loop-key-preserved c = rw c.in_ok-push.ensures.items (record {
  records = AreRecords-push 2 6 c.loop-key.recs.items (c.loop-key.key, c.in_ok-from_slice.field-0) c.loop-key.invariant.records (omega arith) (ap length c.in_ok-from_slice.ensures);
  ascend = within-push 0 c.loop-key.key c.loop-key.recs.items c.in_ok-from_slice.field-0 (omega arith) c.loop-key.invariant.ascend;
  count = omega (arith, c.loop-key.invariant.count, length_push c.loop-key.recs.items (c.loop-key.key, c.in_ok-from_slice.field-0));
})

pub returns-clause-ascend : goal.returns-clause-ascend
returns-clause-ascend c = within-high 0 c.loop-key.key (2 ^ 32) c.loop-key.recs.items c.loop-key.invariant.ascend (omega arith)
