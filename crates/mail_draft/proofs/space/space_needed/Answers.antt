use Rattle.std.proofs.Common.{ap, arith}
use Rattle.mail_draft.specs.Space.{entries_space}
use Rattle.mail_draft.proofs.SortedLaws.{entries-kept, sorted-keys}
use Rattle.mail_draft.proofs.space.space_needed.Goals as goal

pub loop-nid-init : goal.loop-nid-init
loop-nid-init c =
    let all = ap entries_space c.into_iter-nid-iterator.ensures.into_iter_gives.0 in
    record { few = omega arith; sum = omega (arith, all) }

pub loop-nid-preserved : goal.loop-nid-preserved
loop-nid-preserved c =
    let here = ap entries_space c.in-Some.ensures.steps in
    let so_far = c.loop-nid.invariant in
    record {
      few = omega (arith, c.add-total.ensures);
      sum = omega (arith, here, so_far.sum, c.add-total.ensures, c.object_space.ensures);
    }

pub returns : goal.returns
returns c =
    let es = c.args.draft.now.objects.entries in
    let kept = ap entries_space (entries-kept es (sorted-keys es c.into_iter-nid-iterator.ensures.into_iter_gives.5)) in
    let none = ap entries_space c.in-None.ensures.steps.0 in
    omega (arith, kept, none, c.loop-nid.invariant.sum, c.loop-nid.invariant.few)
