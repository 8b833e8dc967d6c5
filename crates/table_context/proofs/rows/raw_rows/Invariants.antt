use Rattle.std.proofs.Common.{◌≡◌, drop, map, All}
use Rattle.heap_on_node.specs.Heap.{item}
use Rattle.bth_tree.specs.Answers.{seen}
use Rattle.table_context.specs.Answers.{HasSize, raw_seen}
use Rattle.table_context.specs.Rows.{raw_rows, row_in}
use Rattle.node_values.specs.Subnodes.{data_of}
use Rattle.table_context.proofs.StepLaws.{before}
use Rattle.table_context.proofs.rows.raw_rows.Given as goal

-- the rows so far, with those of the other records, are all
abbrev pub invariant-loop-record : goal.invariant-loop-record
invariant-loop-record l = record {
  so_far : before (map raw_seen l.raws.items) (raw_rows (row_in (item l.h) (data_of l.subs) l.size l.hnid) (map seen (drop l.record-index l.recs)))
      ≡ raw_rows (row_in (item l.h) (data_of l.subs) l.size l.hnid) (map seen l.recs);
  each : All (HasSize l.size) l.raws.items;
}
