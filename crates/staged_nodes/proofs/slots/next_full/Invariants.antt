use Rattle.staged_nodes.specs.Staging.{Passes, left}
use Rattle.staged_nodes.proofs.slots.next_full.Given as goal

abbrev pub invariant-loop-nid : goal.invariant-loop-nid
invariant-loop-nid l = Passes l.slots l.initial.passed l.passed

abbrev pub decreases-loop-nid : goal.decreases-loop-nid
decreases-loop-nid l = left l.passed
