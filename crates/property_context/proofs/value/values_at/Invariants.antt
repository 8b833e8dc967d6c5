use Rattle.std.proofs.Common.{◌≡◌, [], map, drop}
use Rattle.heap_on_node.specs.Heap.{item}
use Rattle.bth_tree.specs.Answers.{seen}
use Rattle.property_context.specs.Context.{values_of}
use Rattle.node_values.specs.Subnodes.{data_of}
use Rattle.property_context.proofs.ValueLaws.{behind}
use Rattle.property_context.proofs.value.values_at.Given as goal

abbrev pub invariant-loop-property : goal.invariant-loop-property
invariant-loop-property l =
    behind l.values.items (values_of (item l.h) (data_of l.finder) (map seen (drop l.property-index l.records))) ≡ behind [] (values_of (item l.h) (data_of l.finder) (map seen l.records))
