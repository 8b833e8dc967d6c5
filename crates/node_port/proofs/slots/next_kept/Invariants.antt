use Rattle.node_port.specs.Slots.{Passes, left}
use Rattle.node_port.proofs.slots.next_kept.Given as goal

abbrev pub invariant-loop-nid : goal.invariant-loop-nid
invariant-loop-nid l = Passes l.slots l.initial.passed l.passed

abbrev pub decreases-loop-nid : goal.decreases-loop-nid
decreases-loop-nid l = left l.passed
