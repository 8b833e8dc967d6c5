use Rattle.std.proofs.Common.{◌≡◌}
use Rattle.node_port.specs.Nodes.{Nodes}
use Rattle.node_port.specs.Slots.{Keeps}
use Rattle.mail_session.specs.Memory.{CopiesTo, ids_left}
use Rattle.mail_session.proofs.copied.copy_nodes.Given as goal

-- the nodes up to here were copied
abbrev pub invariant-loop-nodes : goal.invariant-loop-nodes
invariant-loop-nodes l = record {
  copied : (N : Nodes) → Keeps l.initial.keeper.nodes N → CopiesTo l.passed l.nodes N;
  stays : (N : Nodes) → Keeps l.initial.keeper.nodes N → Keeps l.keeper.nodes N;
  counts : l.keeper.counts.last ≡ l.initial.keeper.counts.last;
}

abbrev pub decreases-loop-nodes : goal.decreases-loop-nodes
decreases-loop-nodes l = ids_left l.passed
