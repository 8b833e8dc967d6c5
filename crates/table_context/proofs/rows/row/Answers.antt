use Rattle.std.proofs.Common.{◌∙◌, List, Some, length, sym, ap}
use Rattle.std.proofs.lemmas.Result.{err_from_is_err_and}
use Rattle.bth_tree.proofs.ReadLaws.{stops-along}
use Rattle.heap_on_node.specs.Heap.{item}
use Rattle.mapi_values.specs.Properties.{ascend_from}
use Rattle.mapi_values.specs.Values.{Val}
use Rattle.node_values.specs.Subnodes.{data_of}
use Rattle.table_context.proofs.CellLaws.{cells-fit, row-fault, row-is, row-no_id, row-order}
use Rattle.table_context.proofs.LayoutLaws.{id-lies}
use Rattle.table_context.proofs.rows.row.Goals as goal

pub shows_id-requires : goal.shows_id-requires
shows_id-requires c = λ has. id-lies c.args.from (length c.args.bytes.now) c.args.columns.now c.requires has

pub returns-then-not-shows_id : goal.returns-then-not-shows_id
returns-then-not-shows_id c =
    row-no_id (item c.args.h.now) (data_of c.args.subs.now) c.args.from c.args.columns.now c.args.id c.args.bytes.now (sym c.shows_id.ensures ∙ c.if-not-shows_id.true)

pub returns-in_err-values : goal.returns-in_err-values
returns-in_err-values c =
    let p = err_from_is_err_and c.from_residual.result c.from_residual.ensures.1 in
    rw (p.1, p.2) (stops-along c.in_err-values.field-0.0 _ _
    (row-fault (item c.args.h.now) (data_of c.args.subs.now) c.args.from c.args.columns.now c.args.id c.args.bytes.now (sym c.shows_id.ensures ∙ c.if-not-shows_id.false)) c.in_err-values.ensures)

pub returns-then-not-values_ascend : goal.returns-then-not-values_ascend
returns-then-not-values_ascend c =
    row-order (item c.args.h.now) (data_of c.args.subs.now) c.args.from c.args.columns.now c.args.id c.args.bytes.now c.in_ok-values.values.items (sym c.shows_id.ensures ∙ c.if-not-shows_id.false) c.in_ok-values.ensures
    (ap (ascend_from 0) (sym c.as_slice.ensures.value) ∙ sym c.values_ascend.ensures ∙ c.if-not-values_ascend.true)

pub from_vec-requires : goal.from_vec-requires
from_vec-requires c = record {
  ascend = ap (ascend_from 0) (sym c.as_slice.ensures.value) ∙ sym c.values_ascend.ensures ∙ c.if-not-values_ascend.false;
  fit = cells-fit (item c.args.h.now) (data_of c.args.subs.now) c.args.from c.args.columns.now c.args.bytes.now c.requires c.in_ok-values.values.items c.in_ok-values.ensures;
}

pub returns : goal.returns
returns c =
    row-is (item c.args.h.now) (data_of c.args.subs.now) c.args.from c.args.columns.now c.args.id c.args.bytes.now c.in_ok-values.values.items (sym c.shows_id.ensures ∙ c.if-not-shows_id.false) c.in_ok-values.ensures
    (ap (ascend_from 0) (sym c.as_slice.ensures.value) ∙ sym c.values_ascend.ensures ∙ c.if-not-values_ascend.false)
    ∙ ap (λ (vs : List Val). Some (c.args.id, vs)) (sym c.from_vec.ensures)
