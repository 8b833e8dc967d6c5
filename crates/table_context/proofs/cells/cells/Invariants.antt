use Rattle.std.proofs.Common.{◌≡◌, drop}
use Rattle.heap_on_node.specs.Heap.{item}
use Rattle.table_context.specs.Rows.{cells_of}
use Rattle.node_values.specs.Subnodes.{data_of}
use Rattle.table_context.proofs.StepLaws.{before}
use Rattle.table_context.proofs.cells.cells.Given as goal

-- the values so far, with those of the other columns, are all
abbrev pub invariant-loop-column : goal.invariant-loop-column
invariant-loop-column l = before l.values.items (cells_of (item l.h) (data_of l.subs) l.from l.row (drop l.column-index l.columns)) ≡ cells_of (item l.h) (data_of l.subs) l.from l.row l.columns
