use Rattle.std.proofs.Common.{drop}
use Rattle.node_port.specs.Nodes.{Nodes}
use Rattle.tree_look.specs.Walk.{Looks}
use Rattle.search_look.specs.Looking.{ArePart}
use Rattle.search_look.proofs.look.look_searches.Given as goal

abbrev pub invariant-loop-place : goal.invariant-loop-place
invariant-loop-place g l = record {
  looks : Looks (g.K.NodeReader.holds l.initial.keeper (g.W.Outside.view l.initial.w)) (g.K.NodeReader.holds l.keeper (g.W.Outside.view l.w)) (g.K.NodeReader.last l.initial.keeper)
      (g.K.NodeReader.last l.keeper) (g.K.NodeReader.room l.initial.keeper) (g.K.NodeReader.room l.keeper) (g.W.Outside.view l.initial.w) (g.W.Outside.view l.w);
  part : (N : Nodes) → g.K.NodeReader.holds l.initial.keeper (g.W.Outside.view l.initial.w) N → ArePart N l.places (drop l.place-index l.place-items) l.own l.searches;
}
