use Rattle.node_port.specs.Nodes.{Nodes, node_at}
use Rattle.mail_draft.specs.Answers.{Looks}
use Rattle.mail_draft.specs.RowLooks.{AreOf}
use Rattle.mail_draft.proofs.row_look.row_by_blocks.Given as goal

abbrev pub invariant-loop : goal.invariant-loop
invariant-loop g l = record {
  looks : Looks (g.K.NodeReader.holds l.fn.keeper (g.W.Outside.view l.fn.w)) (g.K.NodeReader.holds l.keeper (g.W.Outside.view l.w)) (g.K.NodeReader.last l.fn.keeper) (g.K.NodeReader.last l.keeper) (g.K.NodeReader.room l.fn.keeper) (g.K.NodeReader.room l.keeper) (g.W.Outside.view l.fn.w) (g.W.Outside.view l.w);
  known : (N : Nodes) → g.K.NodeReader.holds l.fn.keeper (g.W.Outside.view l.fn.w) N → AreOf l.heap (node_at N l.table.bits);
}
