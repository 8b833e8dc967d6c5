use Rattle.data_tree.proofs.PlanLaws.{few-xblocks}
use Rattle.data_tree.proofs.plan.above.Goals as goal

pub xxblock-requires-clause-few : goal.xxblock-requires-clause-few
xxblock-requires-clause-few c = rw (c.as_slice.ensures.value, c.in_ok-lists.ensures) (few-xblocks c.args.next c.args.blocks.now c.requires.few)
