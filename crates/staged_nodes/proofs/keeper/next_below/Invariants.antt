use Rattle.node_port.specs.Stops.{Tells}
use Rattle.staged_nodes.specs.Looking.{Looks}
use Rattle.staged_nodes.specs.Staging.{PassesBelow, ids_left}
use Rattle.staged_nodes.proofs.keeper.next_below.Given as goal

abbrev pub invariant-loop-next : goal.invariant-loop-next
invariant-loop-next g l = record {
  looks : Looks (g.K.NodeReader.holds l.initial.keeper (g.W.Outside.view l.initial.w)) (g.K.NodeReader.holds l.keeper (g.W.Outside.view l.w)) (g.K.NodeReader.pinned l.initial.keeper (g.W.Outside.view l.initial.w)) (g.K.NodeReader.pinned l.keeper (g.W.Outside.view l.w)) (g.K.NodeReader.last l.initial.keeper) (g.K.NodeReader.last l.keeper) (g.K.NodeReader.room l.initial.keeper) (g.K.NodeReader.room l.keeper) (g.W.Outside.view l.initial.w) (g.W.Outside.view l.w);
  passes : Tells (g.K.NodeReader.holds l.initial.keeper (g.W.Outside.view l.initial.w)) (λ N. PassesBelow N l.slots l.initial.passed l.passed);
}

abbrev pub decreases-loop-next : goal.decreases-loop-next
decreases-loop-next g l = ids_left l.passed
