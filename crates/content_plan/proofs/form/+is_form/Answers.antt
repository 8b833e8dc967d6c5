use Rattle.std.proofs.Common.{◌+◌, ◌-◌, ℕ, List, subst, arith}
use Rattle.data_tree.specs.Plan.{IsContent}
use Rattle.content_plan.proofs.FormLaws.{forming-end, made-next}
use Rattle.content_plan.proofs.form.+is_form.Goals as goal

pub loop-sub-preserved : goal.loop-sub-preserved
loop-sub-preserved t c =
    let x = c.sub-item.result in
    let nid = c.from-nid.ensures in
    let above = c.if-nid-low.false in
    let content = c.is_content.ensures c.if-not-is_content.false in
    let some = c.if-levels-eq0.false in
    let P : List (List ℕ) → Type 0 = λ bs. IsContent bs in
    record {
      made = made-next (c.args.levels - 1) c.loop-sub.low (c.from-nid.result + 1) c.as_slice-subs.result.now c.loop-sub.sub-index x c.loop-sub-test.true c.sub-item.is (omega (arith, nid, above)) (omega (arith, nid))
          (subst P c.as_slice.ensures.value content) (c.is_form.ensures.form c.if-not-is_form.false) (c.is_form.ensures.shallow c.if-not-is_form.false) c.loop-sub.invariant.made;
      some = λ h. omega (arith, some);
    }

pub returns-clause-form : goal.returns-clause-form
returns-clause-form t c = λ yes. (forming-end c.args.levels c.loop-sub.low c.as_slice-subs.result.now c.loop-sub.sub-index c.args.s.now c.as_slice-subs.ensures c.loop-sub-test.false c.requires c.if-subs-gt-MOST_SUBS.false c.loop-sub.invariant).form

pub returns-clause-shallow : goal.returns-clause-shallow
returns-clause-shallow t c = λ yes. (forming-end c.args.levels c.loop-sub.low c.as_slice-subs.result.now c.loop-sub.sub-index c.args.s.now c.as_slice-subs.ensures c.loop-sub-test.false c.requires c.if-subs-gt-MOST_SUBS.false c.loop-sub.invariant).shallow
