use Rattle.content_plan.proofs.MatchLaws.{other-first, there-first, there-none}
use Rattle.content_plan.proofs.matching.first_with.Goals as goal

pub returns-then-sub-nid : goal.returns-then-sub-nid
returns-then-sub-nid c = there-none c.args.nid.bits c.args.old.subs.now c.args.old.ids.now (other-first c.args.nid.bits c.args.old.subs.now c.in-Some.sub.now c.in-Some.field-0-1.now c.in-Some.ensures.cases.0 c.if-sub-nid.true)

pub returns : goal.returns
returns c = λ up begins.
    there-first c.args.nid.bits c.args.old.subs.now c.args.old.ids.now c.others.result.now c.first_ids.result.now c.as_slice.result.now c.in-Some.sub.now c.in-Some.field-0-1.now c.as_slice-2.result.now
    c.in-Some.ensures.cases.0 c.if-sub-nid.false c.first_ids.ensures c.as_slice.ensures.value c.as_slice-2.ensures c.others.ensures up
