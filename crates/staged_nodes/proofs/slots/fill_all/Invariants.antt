use Rattle.std.proofs.Common.{◌≡◌}
use Rattle.std.specs.Vec.Iter.{into_iter_items}
use Rattle.node_port.specs.Nodes.{Nodes, changed}
use Rattle.staged_nodes.specs.Staged.{Staged, with_changes}
use Rattle.staged_nodes.specs.Staging.{HasChanges, HasSlots, LiesOver}
use Rattle.staged_nodes.proofs.slots.fill_all.Given as goal

-- the slots have what the rest of the changes makes the new ones
abbrev pub invariant-loop-nid : goal.invariant-loop-nid
invariant-loop-nid l = record {
  can_next : (goal.iterator-loop-nid).can_next l.nid-iterator;
  is_finite : (goal.iterator-loop-nid).is_finite l.nid-iterator;
  ready : HasSlots l.slots (into_iter_items l.nid-iterator);
  so_far : (F : Staged) → HasChanges l.initial.slots F → (G : Staged) × HasChanges l.slots G × (with_changes F l.fn.changes.items ≡ with_changes G (into_iter_items l.nid-iterator));
  lies : (N M : Nodes) → LiesOver N l.initial.slots M → (L : Nodes) × LiesOver N l.slots L × (changed M l.fn.changes.items ≡ changed L (into_iter_items l.nid-iterator));
}
