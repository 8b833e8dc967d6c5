use Rattle.data_tree.proofs.PlanLaws.{contents-numbered, length-numbered}
use Rattle.data_tree.proofs.plan.planned.Goals as goal

pub above-requires-clause-few : goal.above-requires-clause-few
above-requires-clause-few c =
    let few = c.requires.content.few in
    rw (c.as_slice.ensures.value, c.in_ok-out.ensures, length-numbered 0 c.args.next c.args.blocks.now) few

pub above-requires-clause-together : goal.above-requires-clause-together
above-requires-clause-together c =
    rw (c.as_slice.ensures.value, c.in_ok-out.ensures, contents-numbered 0 c.args.next c.args.blocks.now) c.requires.content.together
