use Rattle.std.proofs.Common.{get_or, map}
use Rattle.std.proofs.lemmas.Result.{err_from_is_err_and}
use Rattle.bth_tree.proofs.ReadLaws.{stops-along}
use Rattle.heap_on_node.specs.Heap.{item}
use Rattle.table_context.specs.Answers.{raw_seen}
use Rattle.table_context.specs.Rows.{rows_of}
use Rattle.node_values.specs.Subnodes.{data_of}
use Rattle.table_context.proofs.RowLaws.{no_row, rows-fault, rows-step}
use Rattle.table_context.proofs.rows.rows.Goals as goal

pub returns-in_err-row : goal.returns-in_err-row
returns-in_err-row c =
    let p = err_from_is_err_and c.from_residual-in_err-row.result c.from_residual-in_err-row.ensures.1 in
    rw (p.1, p.2) (stops-along c.in_err-row.field-0.0 _ _
    (rows-fault (item c.args.h.now) (data_of c.args.subs.now) c.args.from c.args.columns.now c.args.raws.now c.loop-raw.raw-index no_row c.loop-raw.rows.items
    (rows_of (item c.args.h.now) (data_of c.args.subs.now) c.args.from c.args.columns.now (map raw_seen c.args.raws.now)) c.loop-raw-test.true c.loop-raw.invariant) c.in_err-row.ensures)

pub loop-raw-preserved : goal.loop-raw-preserved
loop-raw-preserved c =
    rw c.in_ok-push.ensures.items
    (rows-step (item c.args.h.now) (data_of c.args.subs.now) c.args.from c.args.columns.now c.args.raws.now c.loop-raw.raw-index no_row c.loop-raw.rows.items
    (rows_of (item c.args.h.now) (data_of c.args.subs.now) c.args.from c.args.columns.now (map raw_seen c.args.raws.now)) ((get_or c.args.raws.now c.loop-raw.raw-index no_row).id, c.in_ok-row.field-0)
    c.loop-raw-test.true c.loop-raw.invariant c.in_ok-row.ensures)
