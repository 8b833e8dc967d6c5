use Rattle.std.proofs.Common.{take}
use Rattle.staged_nodes.specs.Staging.{HasSlots, SameChanges}
use Rattle.staged_nodes.proofs.slots.make_slots.Given as goal

-- the changes so far have their slots
abbrev pub invariant-loop-change : goal.invariant-loop-change
invariant-loop-change l = record {
  same : SameChanges l.initial.slots l.slots;
  ready : HasSlots l.slots (take l.change-index l.changes);
}
