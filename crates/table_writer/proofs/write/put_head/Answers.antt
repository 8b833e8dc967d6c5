use Rattle.std.proofs.Common.{◌≡◌, ◌∙◌, ◌≤◌, ℕ, List, length, get_or, subst, ap, arith}
use Rattle.bth_tree.specs.Making.{AreRecords}
use Rattle.table_writer.specs.Writing.{numbered}
use Rattle.table_writer.proofs.TableLaws.{head-put, index-room, limits, numbered-count, numbered-within}
use Rattle.table_writer.proofs.write.put_head.Goals as goal

pub index_records-requires : goal.index_records-requires
index_records-requires c = omega (arith, (limits c.args.t.now c.requires.fit).rows, c.rows.ensures.len)

pub bth_make-requires-clause-records : goal.bth_make-requires-clause-records
bth_make-requires-clause-records c = rw c.as_slice.ensures.value c.in_ok-records.ensures.fit

pub bth_make-requires-clause-ascend : goal.bth_make-requires-clause-ascend
bth_make-requires-clause-ascend c =
    let recs : c.as_slice.result.now ≡ numbered 0 c.args.t.now.rows = c.as_slice.ensures.value ∙ c.in_ok-records.ensures.all ∙ ap (numbered 0) c.rows.ensures.value in
    let fit : AreRecords 4 4 (numbered 0 c.args.t.now.rows) = subst (λ (rs : List (ℕ × List ℕ)). AreRecords 4 4 rs) (c.in_ok-records.ensures.all ∙ ap (numbered 0) c.rows.ensures.value) c.in_ok-records.ensures.fit in
    rw recs (numbered-within 0 0 c.args.t.now.rows c.rows.ensures.table.ascend fit)

pub bth_make-requires-clause-blocks : goal.bth_make-requires-clause-blocks
bth_make-requires-clause-blocks c =
    let recs : c.as_slice.result.now ≡ numbered 0 c.rows.result.now = c.as_slice.ensures.value ∙ c.in_ok-records.ensures.all in
    let count : length c.as_slice.result.now ≤ 500000 = omega (arith, ap length recs, numbered-count 0 c.rows.result.now, c.rows.ensures.len, (limits c.args.t.now c.requires.fit).rows) in
    omega (arith, index-room (length c.as_slice.result.now) count, c.requires.blocks)

pub header-requires-clause-count : goal.header-requires-clause-count
header-requires-clause-count c = omega (arith, ap length c.columns.ensures.value, (limits c.args.t.now c.requires.fit).columns)

pub header-requires-clause-layout : goal.header-requires-clause-layout
header-requires-clause-layout c = rw (c.columns.ensures.value, c.ends.ensures) c.columns.ensures.table.layout

pub header-requires-clause-low : goal.header-requires-clause-low
header-requires-clause-low c = omega (arith, ap (λ (es : List ℕ). get_or es 3 0) c.ends.ensures, (limits c.args.t.now c.requires.fit).low)

pub header-requires-clause-high : goal.header-requires-clause-high
header-requires-clause-high c = omega (arith, ap (λ (es : List ℕ). get_or es 3 0) c.ends.ensures, (limits c.args.t.now c.requires.fit).high)

pub add-requires-clause-size : goal.add-requires-clause-size
add-requires-clause-size c = omega (arith, ap length c.as_slice-2.ensures.value, c.in_ok-head.ensures.size, ap length c.columns.ensures.value, (limits c.args.t.now c.requires.fit).columns)

pub add-requires-clause-blocks : goal.add-requires-clause-blocks
add-requires-clause-blocks c =
    let recs : c.as_slice.result.now ≡ numbered 0 c.rows.result.now = c.as_slice.ensures.value ∙ c.in_ok-records.ensures.all in
    let count : length c.as_slice.result.now ≤ 500000 = omega (arith, ap length recs, numbered-count 0 c.rows.result.now, c.rows.ensures.len, (limits c.args.t.now c.requires.fit).rows) in
    omega (arith, index-room (length c.as_slice.result.now) count, c.requires.blocks, c.in_ok-index.ensures.blocks)

pub returns-clause-puts : goal.returns-clause-puts
returns-clause-puts c =
    head-put c.args.maker c.bth_make.new.h c.add.new.self c.args.t.now c.args.matrix c.in_ok-index.index c.in_ok-root.root c.as_slice-2.result.now c.as_slice.result.now c.columns.result.now c.ends.result c.in_ok-index.ensures
    (c.as_slice.ensures.value ∙ c.in_ok-records.ensures.all ∙ ap (numbered 0) c.rows.ensures.value)
    (rw c.as_slice.ensures.value c.in_ok-records.ensures.fit)
    (rw c.as_slice-2.ensures.value c.in_ok-head.ensures) c.columns.ensures.value c.ends.ensures c.in_ok-root.ensures.ok
