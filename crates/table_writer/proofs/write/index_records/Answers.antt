use Rattle.std.proofs.Common.{◌∙◌, ℕ, List, length, ap, arith}
use Rattle.byteorder.specs.Numbers.{length-bytes_low_first}
use Rattle.bth_tree.proofs.MakeLaws.{AreRecords-push}
use Rattle.mapi_values.specs.Values.{Val}
use Rattle.table_writer.specs.Writing.{numbered}
use Rattle.table_writer.proofs.TableLaws.{numbered-step}
use Rattle.table_writer.proofs.write.index_records.Goals as goal

pub loop-row-preserved : goal.loop-row-preserved
loop-row-preserved c =
    let bytes = c.in_ok-from_slice.ensures ∙ c.to_le_bytes.ensures in
    rw c.in_ok-push.ensures.items (record {
      number = omega (arith, c.loop-row.invariant.number);
      fit = AreRecords-push 4 4 c.loop-row.records.items (c.row-item.result.0, c.in_ok-from_slice.field-0) c.loop-row.invariant.fit (omega arith) (ap length bytes ∙ length-bytes_low_first 0 4 c.loop-row.n);
      all = numbered-step c.loop-row.n c.args.rows.now c.loop-row.row-index c.row-item.result c.loop-row.records.items (numbered 0 c.args.rows.now) c.row-item.result.0 c.in_ok-from_slice.field-0 (omega (arith, c.loop-row-test.true))
          (ap (λ (r : ℕ × List Val). r.0) c.row-item.is) bytes c.loop-row.invariant.all;
    })
