use Rattle.std.proofs.Common.{[], ◌∷◌, take}
use Rattle.heap_on_node.specs.Packing.{IsPacked}
use Rattle.property_context.specs.Writing.{PutsValues}
use Rattle.property_context.proofs.write.put_values.Given as goal

-- the values so far are written
abbrev pub invariant-loop-value : goal.invariant-loop-value
invariant-loop-value l = record {
  puts : PutsValues ([] ∷ []) l.heap l.fn.p l.p (take l.value-index l.values) l.records.items;
  packed : IsPacked l.heap;
}
