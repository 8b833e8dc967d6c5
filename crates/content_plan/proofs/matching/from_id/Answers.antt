use Rattle.content_plan.proofs.MatchLaws.{begins-with, passes-next, passes-start}
use Rattle.content_plan.proofs.matching.from_id.Goals as goal

pub loop-sub-init : goal.loop-sub-init
loop-sub-init c = passes-start c.args.nid.bits c.args.old.subs.now c.args.old.ids.now

pub returns-then-sub-nid-clause-begins : goal.returns-then-sub-nid-clause-begins
returns-then-sub-nid-clause-begins c = begins-with c.args.nid.bits c.loop-sub.left.subs.now c.in-Some.sub.now c.in-Some.rest.now c.in-Some.ensures.cases.0 c.if-sub-nid.true

pub loop-sub-preserved : goal.loop-sub-preserved
loop-sub-preserved c =
    passes-next c.args.nid.bits c.args.old.subs.now c.args.old.ids.now c.loop-sub.left.subs.now c.loop-sub.left.ids.now c.others.result.now c.behind.result.now c.in-Some.sub.now c.in-Some.rest.now c.in-Some.ensures.cases.0 c.if-sub-nid.false c.others.ensures c.behind.ensures c.loop-sub.invariant
