use Rattle.std.proofs.Common.{◌<◌, ◌-◌, ◌^◌}
use Rattle.mail_tree.specs.Tree.{Shown, Tree}
use Rattle.mail_draft.specs.Answers.{Looks}
use Rattle.mail_draft.proofs.WalkLaws.{Reaches}
use Rattle.mail_draft.proofs.ids.greatest_index.Given as goal

abbrev pub invariant-loop-next : goal.invariant-loop-next
invariant-loop-next g l = record {
  below : l.at.bits < 2 ^ 32;
  looks : Looks (g.K.NodeReader.holds l.fn.keeper (g.W.Outside.view l.fn.w)) (g.K.NodeReader.holds l.keeper (g.W.Outside.view l.w)) (g.K.NodeReader.last l.fn.keeper) (g.K.NodeReader.last l.keeper) (g.K.NodeReader.room l.fn.keeper) (g.K.NodeReader.room l.keeper) (g.W.Outside.view l.fn.w) (g.W.Outside.view l.w);
  reaches : (T : Tree) → Shown (g.K.NodeReader.holds l.fn.keeper (g.W.Outside.view l.fn.w)) (g.K.NodeReader.last l.fn.keeper) T → Reaches T l.kinds l.counter l.at.bits l.greatest;
}

abbrev pub decreases-loop-next : goal.decreases-loop-next
decreases-loop-next g l = 2 ^ 32 - l.at.bits
