use Rattle.std.proofs.Common.{◌≡◌, ◌∙◌, ◌+◌, ℕ, List, drop, get_or, map, sym, ap}
use Rattle.std.proofs.lemmas.List.{map_push}
use Rattle.byteorder.specs.Endian.{little_number}
use Rattle.pst_base.proofs.FieldLaws.{number_at-zero}
use Rattle.heap_on_node.specs.Heap.{item}
use Rattle.bth_tree.specs.Answers.{seen}
use Rattle.bth_tree.proofs.ReadLaws.{no_record}
use Rattle.table_context.specs.declared.rows.RawRow.{RawRow}
use Rattle.table_context.specs.Answers.{HasSize, raw_seen}
use Rattle.table_context.specs.Rows.{raw_rows, row_in}
use Rattle.node_values.specs.Subnodes.{data_of}
use Rattle.table_context.proofs.StepLaws.{before}
use Rattle.table_context.proofs.RowLaws.{all-push, raws-fault, raws-step, row-size}
use Rattle.table_context.proofs.rows.raw_rows.Goals as goal

pub returns-in_default-clause-exact : goal.returns-in_default-clause-exact
returns-in_default-clause-exact c =
    let row = row_in (item c.args.h.now) (data_of c.args.subs.now) c.args.size c.args.hnid in
    let n_is : c.u32_at-n.result ≡ little_number 4 (get_or c.args.recs.now c.loop-record.record-index no_record).entry.now = c.u32_at-n.ensures ∙ number_at-zero 4 (get_or c.args.recs.now c.loop-record.record-index no_record).entry.now in
    raws-fault row c.args.recs.now c.loop-record.record-index no_record (map raw_seen c.loop-record.raws.items) (raw_rows row (map seen c.args.recs.now)) c.loop-record-test.true c.loop-record.invariant.so_far
    (ap row (sym n_is) ∙ sym c.in_default.ensures)

pub loop-record-preserved : goal.loop-record-preserved
loop-record-preserved c =
    let row = row_in (item c.args.h.now) (data_of c.args.subs.now) c.args.size c.args.hnid in
    let n_is : c.u32_at-n.result ≡ little_number 4 (get_or c.args.recs.now c.loop-record.record-index no_record).entry.now = c.u32_at-n.ensures ∙ number_at-zero 4 (get_or c.args.recs.now c.loop-record.record-index no_record).entry.now in
    let new : RawRow = record { id = (get_or c.args.recs.now c.loop-record.record-index no_record).key; bytes = c.in-Some.bytes } in
    rw c.in_ok-push.ensures.items (record {
      so_far = ap (λ (out : List (ℕ × List ℕ)). before out (raw_rows row (map seen (drop (c.loop-record.record-index + 1) c.args.recs.now)))) (map_push raw_seen c.loop-record.raws.items new)
          ∙ raws-step row c.args.recs.now c.loop-record.record-index no_record (map raw_seen c.loop-record.raws.items) (raw_rows row (map seen c.args.recs.now)) c.in-Some.bytes.now c.loop-record-test.true c.loop-record.invariant.so_far
          (ap row (sym n_is) ∙ sym c.in-Some.ensures);
      each = all-push (HasSize c.args.size) c.loop-record.raws.items new c.loop-record.invariant.each
          (row-size (item c.args.h.now) (data_of c.args.subs.now) c.args.size c.args.hnid c.u32_at-n.result c.in-Some.bytes.now (sym c.in-Some.ensures));
    })
