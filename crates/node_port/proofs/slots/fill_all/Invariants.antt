use Rattle.std.proofs.Common.{◌≡◌}
use Rattle.std.specs.Vec.Iter.{into_iter_items}
use Rattle.node_port.specs.Nodes.{Nodes, changed}
use Rattle.node_port.specs.Slots.{HasSlots, Keeps}
use Rattle.node_port.proofs.slots.fill_all.Given as goal

-- the slots keep what the rest of the changes makes the new nodes
abbrev pub invariant-loop-nid : goal.invariant-loop-nid
invariant-loop-nid l = record {
  can_next : (goal.iterator-loop-nid).can_next l.nid-iterator;
  is_finite : (goal.iterator-loop-nid).is_finite l.nid-iterator;
  ready : HasSlots l.slots (into_iter_items l.nid-iterator);
  so_far : (N : Nodes) → Keeps l.initial.slots N → (M : Nodes) × Keeps l.slots M × (changed N l.fn.changes.items ≡ changed M (into_iter_items l.nid-iterator));
}
