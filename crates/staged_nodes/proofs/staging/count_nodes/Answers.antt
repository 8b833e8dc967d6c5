use Rattle.std.proofs.Common.{◌∙◌}
use Rattle.staged_nodes.proofs.CountLaws.{nodes-next}
use Rattle.staged_nodes.proofs.staging.count_nodes.Goals as goal

pub loop-change-preserved : goal.loop-change-preserved
loop-change-preserved c = c.min-n.ensures ∙ nodes-next c.args.nodes.now c.loop-change.change-index c.loop-change.n c.count_node.result c.change-item.result c.loop-change-test.true c.change-item.is c.loop-change.invariant c.count_node.ensures
