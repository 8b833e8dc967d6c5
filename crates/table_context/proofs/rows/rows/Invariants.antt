use Rattle.std.proofs.Common.{◌≡◌, drop, map}
use Rattle.heap_on_node.specs.Heap.{item}
use Rattle.table_context.specs.Answers.{raw_seen}
use Rattle.table_context.specs.Rows.{rows_of}
use Rattle.node_values.specs.Subnodes.{data_of}
use Rattle.table_context.proofs.StepLaws.{before}
use Rattle.table_context.proofs.rows.rows.Given as goal

-- the rows so far, with the others, are all
abbrev pub invariant-loop-raw : goal.invariant-loop-raw
invariant-loop-raw l = before l.rows.items (rows_of (item l.h) (data_of l.subs) l.from l.columns (map raw_seen (drop l.raw-index l.raws))) ≡ rows_of (item l.h) (data_of l.subs) l.from l.columns (map raw_seen l.raws)
