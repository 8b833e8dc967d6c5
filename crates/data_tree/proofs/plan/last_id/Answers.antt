use Rattle.std.proofs.Common.{arith}
use Rattle.data_tree.proofs.PlanSteps.{last_id-at}
use Rattle.data_tree.proofs.plan.last_id.Goals as goal

pub returns : goal.returns
returns c = last_id-at c.args.blocks.now c.index-blocks-blocks.result (omega arith)
