use Rattle.std.proofs.Common.{◌≡◌, ◌∙◌, ◌^◌, ℕ, List, Some, get_or, map, ap, arith}
use Rattle.pst_base.specs.Fields.{number_at}
use Rattle.heap_on_node.specs.Heap.{item}
use Rattle.bth_tree.specs.Answers.{seen}
use Rattle.table_context.specs.Answers.{raw_seen}
use Rattle.table_context.specs.Header.{size_in}
use Rattle.table_context.specs.Rows.{rows_of, row_in}
use Rattle.node_values.specs.Subnodes.{data_of}
use Rattle.table_context.proofs.LayoutLaws.{form-layout}
use Rattle.table_context.proofs.ContextLaws.{each-lies, header-lies, raws-ascend, rows-ascend, rows-suit, table-made}
use Rattle.table_context.proofs.read.table_of.Goals as goal

pub raw_rows-requires-clause-low : goal.raw_rows-requires-clause-low
raw_rows-requires-clause-low c =
    let f = form-layout c.args.x.now c.args.columns.items c.requires.form in
    omega (arith, c.from-size.ensures, ap (λ (es : List ℕ). get_or es 3 0) c.ends-ends.ensures, f.1)

pub raw_rows-requires-clause-high : goal.raw_rows-requires-clause-high
raw_rows-requires-clause-high c =
    let f = form-layout c.args.x.now c.args.columns.items c.requires.form in
    omega (arith, c.from-size.ensures, ap (λ (es : List ℕ). get_or es 3 0) c.ends-ends.ensures, f.2)

pub rows-requires : goal.rows-requires
rows-requires c =
    let from_is : c.from-from.result ≡ number_at 2 6 c.args.x.now = c.from-from.ensures ∙ ap (λ (es : List ℕ). get_or es 2 0) c.ends-ends.ensures in
    let size_is : c.from-size.result ≡ size_in c.args.x.now = c.from-size.ensures ∙ ap (λ (es : List ℕ). get_or es 3 0) c.ends-ends.ensures in
    each-lies c.from-from.result c.from-size.result c.args.columns.items c.as_slice.result.now c.in_ok-raws.raws.items c.as_slice-2.result.now c.as_slice-2.ensures.value c.as_slice.ensures.value
    (header-lies c.args.x.now c.args.columns.items c.from-from.result c.from-size.result c.requires.form from_is size_is) c.in_ok-raws.ensures.each

pub kept-requires : goal.kept-requires
kept-requires c =
    let from_is : c.from-from.result ≡ number_at 2 6 c.args.x.now = c.from-from.ensures ∙ ap (λ (es : List ℕ). get_or es 2 0) c.ends-ends.ensures in
    let size_is : c.from-size.result ≡ size_in c.args.x.now = c.from-size.ensures ∙ ap (λ (es : List ℕ). get_or es 3 0) c.ends-ends.ensures in
    each-lies c.from-from.result c.from-size.result c.args.columns.items c.as_slice-3.result.now c.in_ok-raws.raws.items c.as_slice-4.result.now c.as_slice-4.ensures.value c.as_slice-3.ensures.value
    (header-lies c.args.x.now c.args.columns.items c.from-from.result c.from-size.result c.requires.form from_is size_is) c.in_ok-raws.ensures.each

pub from_parts-requires : goal.from_parts-requires
from_parts-requires c =
    let from_is : c.from-from.result ≡ number_at 2 6 c.args.x.now = c.from-from.ensures ∙ ap (λ (es : List ℕ). get_or es 2 0) c.ends-ends.ensures in
    let size_is : c.from-size.result ≡ size_in c.args.x.now = c.from-size.ensures ∙ ap (λ (es : List ℕ). get_or es 3 0) c.ends-ends.ensures in
    let get = item c.args.h.now in
    let sub = data_of c.args.subs.now in
    let f = form-layout c.args.x.now c.args.columns.items c.requires.form in
    let read : rows_of get sub c.from-from.result c.args.columns.items (map raw_seen c.in_ok-raws.raws.items) ≡ Some c.in_ok-rows.rows.items = rw (c.as_slice.ensures.value, c.as_slice-2.ensures.value) at c.in_ok-rows.ensures in
    record {
      layout = rw c.ends-ends.ensures f.0;
      ascend = rows-ascend get sub c.from-from.result c.args.columns.items 0 (map raw_seen c.in_ok-raws.raws.items) c.in_ok-rows.rows.items read
          (raws-ascend (row_in get sub c.from-size.result c.u32_at-hnid.result) 0 (2 ^ 32) (map seen c.args.recs.now) (map raw_seen c.in_ok-raws.raws.items) c.in_ok-raws.ensures.exact c.requires.ascend);
      suit = rows-suit get sub c.from-from.result c.from-size.result c.args.columns.items c.in_ok-raws.raws.items c.in_ok-rows.rows.items
          (header-lies c.args.x.now c.args.columns.items c.from-from.result c.from-size.result c.requires.form from_is size_is) c.in_ok-raws.ensures.each read;
    }

pub returns : goal.returns
returns c =
    let from_is : c.from-from.result ≡ number_at 2 6 c.args.x.now = c.from-from.ensures ∙ ap (λ (es : List ℕ). get_or es 2 0) c.ends-ends.ensures in
    let size_is : c.from-size.result ≡ size_in c.args.x.now = c.from-size.ensures ∙ ap (λ (es : List ℕ). get_or es 3 0) c.ends-ends.ensures in
    let get = item c.args.h.now in
    let sub = data_of c.args.subs.now in
    let read : rows_of get sub c.from-from.result c.args.columns.items (map raw_seen c.in_ok-raws.raws.items) ≡ Some c.in_ok-rows.rows.items = rw (c.as_slice.ensures.value, c.as_slice-2.ensures.value) at c.in_ok-rows.ensures in
    let left = rw (c.as_slice-3.ensures.value, c.as_slice-4.ensures.value) at c.in_ok-kept.ensures in
    table-made get c.args.subs.now c.args.x.now c.args.columns.items (map seen c.args.recs.now) c.from-from.result c.from-size.result c.u32_at-hnid.result (map raw_seen c.in_ok-raws.raws.items) c.in_ok-rows.rows.items
    c.in_ok-kept.kept c.from_parts.result from_is size_is c.u32_at-hnid.ensures c.in_ok-raws.ensures.exact read left c.from_parts.ensures.columns (c.from_parts.ensures.ends ∙ c.ends-ends.ensures) c.from_parts.ensures.rows c.from_parts.ensures.kept
