use Rattle.std.proofs.Common.{take}
use Rattle.node_port.specs.Slots.{HasSlots, SameNodes}
use Rattle.node_port.proofs.slots.make_slots.Given as goal

-- the changes so far have their slots
abbrev pub invariant-loop-change : goal.invariant-loop-change
invariant-loop-change l = record {
  same : SameNodes l.initial.slots l.slots;
  ready : HasSlots l.slots (take l.change-index l.changes);
}
