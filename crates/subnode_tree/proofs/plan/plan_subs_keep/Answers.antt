use Rattle.subnode_tree.proofs.SubPlanLaws.{plans-among, plans-kept, plans-name, plans-reach}
use Rattle.subnode_tree.proofs.plan.plan_subs_keep.Goals as goal

pub returns-clause-laid : goal.returns-clause-laid
returns-clause-laid c = plans-among c.args.keep.now c.args.s.now c.args.next c.in_ok-plan.plan.bid c.in_ok-plan.plan.blocks.items c.in_ok-plan.ensures.plans

pub returns-clause-ids : goal.returns-clause-ids
returns-clause-ids c = plans-name c.args.keep.now c.args.s.now c.args.next c.in_ok-plan.plan.bid c.in_ok-plan.plan.blocks.items c.requires.form c.in_ok-plan.ensures.plans

pub returns-clause-reads : goal.returns-clause-reads
returns-clause-reads c = plans-kept c.args.keep.now c.args.s.now c.args.next c.in_ok-plan.plan.bid c.in_ok-plan.plan.blocks.items c.requires.form c.in_ok-plan.ensures.plans

pub returns-clause-reaches : goal.returns-clause-reaches
returns-clause-reaches c = plans-reach c.args.keep.now c.args.s.now c.args.next c.in_ok-plan.plan.bid c.in_ok-plan.plan.blocks.items c.requires.form c.in_ok-plan.ensures.plans
