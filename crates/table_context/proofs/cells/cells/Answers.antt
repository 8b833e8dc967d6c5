use Rattle.std.proofs.Common.{◌∙◌, length, sym, arith}
use Rattle.std.proofs.lemmas.Result.{err_from_is_err_and}
use Rattle.bth_tree.proofs.ReadLaws.{stops-along}
use Rattle.heap_on_node.specs.Heap.{item}
use Rattle.table_context.specs.Rows.{cells_of}
use Rattle.node_values.specs.Subnodes.{data_of}
use Rattle.table_context.proofs.CellLaws.{cells-fault, cells-skip, cells-step}
use Rattle.table_context.proofs.LayoutLaws.{lies-at}
use Rattle.table_context.proofs.cells.cells.Goals as goal
use Rattle.table_context.proofs.cells.cells.Goals.{then-has_cell+in_ok-cell+in_ok-push, else-has_cell}

pub has_cell-requires : goal.has_cell-requires
has_cell-requires c =
    let l = lies-at c.args.from (length c.args.row.now) c.args.columns.now c.loop-column.column-index (record { tag = record { id = 0; kind = 0 }; at = 0; width = 0; bit = 0 }) c.requires c.loop-column-test.true in
    l.bit

pub cell-requires : goal.cell-requires
cell-requires c =
    let l = lies-at c.args.from (length c.args.row.now) c.args.columns.now c.loop-column.column-index (record { tag = record { id = 0; kind = 0 }; at = 0; width = 0; bit = 0 }) c.requires c.loop-column-test.true in
    omega (arith, l.bit, l.cell, l.width)

pub returns-in_err-cell : goal.returns-in_err-cell
returns-in_err-cell c =
    let p = err_from_is_err_and c.from_residual.result c.from_residual.ensures.1 in
    let none = cells-fault (item c.args.h.now) (data_of c.args.subs.now) c.args.from c.args.row.now c.args.columns.now c.loop-column.column-index (record { tag = record { id = 0; kind = 0 }; at = 0; width = 0; bit = 0 }) c.loop-column.values.items
    (cells_of (item c.args.h.now) (data_of c.args.subs.now) c.args.from c.args.row.now c.args.columns.now) c.loop-column-test.true (sym c.has_cell.ensures ∙ c.if-has_cell.true) c.loop-column.invariant in
    rw (p.1, p.2) (stops-along c.in_err-cell.field-0.0 _ _ none c.in_err-cell.ensures)

pub loop-column-preserved : goal.loop-column-preserved
loop-column-preserved c = elim c.if-has_cell.branch [
  | then-has_cell+in_ok-cell+in_ok-push w ↦
      rw (w.values-is, w.in_ok-push.ensures.items)
      (cells-step (item c.args.h.now) (data_of c.args.subs.now) c.args.from c.args.row.now c.args.columns.now c.loop-column.column-index (record { tag = record { id = 0; kind = 0 }; at = 0; width = 0; bit = 0 }) c.loop-column.values.items
      (cells_of (item c.args.h.now) (data_of c.args.subs.now) c.args.from c.args.row.now c.args.columns.now) w.in_ok-cell.field-0 c.loop-column-test.true (sym c.has_cell.ensures ∙ w.if-has_cell.true) c.loop-column.invariant w.in_ok-cell.ensures)
  | else-has_cell w ↦
      rw w.values-is
      (cells-skip (item c.args.h.now) (data_of c.args.subs.now) c.args.from c.args.row.now c.args.columns.now c.loop-column.column-index (record { tag = record { id = 0; kind = 0 }; at = 0; width = 0; bit = 0 }) c.loop-column.values.items
      (cells_of (item c.args.h.now) (data_of c.args.subs.now) c.args.from c.args.row.now c.args.columns.now) c.loop-column-test.true (sym c.has_cell.ensures ∙ w.if-has_cell.false) c.loop-column.invariant)
]
