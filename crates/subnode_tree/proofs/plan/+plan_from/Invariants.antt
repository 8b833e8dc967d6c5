use Rattle.std.proofs.Common.{length, take}
use Rattle.subnode_tree.proofs.SubPlanLaws.{Underway}
use Rattle.subnode_tree.proofs.plan.+plan_from.Given as goal

abbrev pub invariant-loop-sub : goal.invariant-loop-sub
invariant-loop-sub l = Underway l.keep (take l.sub-index l.subs) l.rows.items l.first l.next l.blocks.items l.rest

abbrev pub decreases-plan_from : goal.decreases-plan_from
decreases-plan_from l = length l.s.now
