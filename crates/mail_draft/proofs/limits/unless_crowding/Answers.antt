use Rattle.std.proofs.Common.{ℕ, List, Option, Err, Ok, refl, subst, sym}
use Rattle.std.proofs.lemmas.Result.{err_from_is_err_and}
use Rattle.mail_objects.specs.declared.object.Object.{Object}
use Rattle.mail_tree.specs.Changing.{unless_crowding, unless_past}
use Rattle.mail_draft.specs.Answers.{Says}
use Rattle.mail_draft.proofs.Looking.{caused_later, looks_same, looks_then, shown_still}
use Rattle.mail_draft.proofs.Passes.{stop_says, then_says}
use Rattle.mail_draft.proofs.SortedLaws.{entries-kept, sorted-keys}
use Rattle.mail_draft.proofs.limits.unless_crowding.Goals as goal

pub loop-nid-init : goal.loop-nid-init
loop-nid-init g c = record {
  looks = looks_same _ _ _ _;
  goes_on = λ T s r h. subst (λ (es : List (ℕ × Option Object)). Says (λ (u : Unit {0}). u) (unless_crowding T c.args.new es) r) c.into_iter-nid-iterator.ensures.into_iter_gives.0 h;
}

pub loop-nid-preserved : goal.loop-nid-preserved
loop-nid-preserved g c = record {
  looks = looks_then c.loop-nid.invariant.looks c.in_ok-unless_past.ensures.looks;
  goes_on = λ T s r h.
      c.loop-nid.invariant.goes_on T s r (subst (λ (es : List (ℕ × Option Object)). Says (λ (u : Unit {0}). u) (unless_crowding T c.args.new es) r) (sym c.in-Some.ensures.steps)
      (then_says (λ (u : Unit {0}). u) (λ (u : Unit {0}). u) (unless_past T c.args.new (c.in-Some.nid.now, c.in-Some.object.now)) (λ u. unless_crowding T c.args.new c.next.new.self) _ r
      (c.in_ok-unless_past.ensures.answer T (shown_still T c.loop-nid.invariant.looks s)) h));
}

pub returns-in_err-unless_past-clause-answer : goal.returns-in_err-unless_past-clause-answer
returns-in_err-unless_past-clause-answer g c =
    let p = err_from_is_err_and c.from_residual.result c.from_residual.ensures.1 in
    rw (p.1, p.2) (λ T s.
    let es = c.args.draft.now.objects.entries in
    subst (λ (xs : List (ℕ × Option Object)). Says {B = Unit {0}} (λ (u : Unit {0}). u) (unless_crowding T c.args.new xs) (Err c.in_err-unless_past.field-0.0)) (sym (entries-kept es (sorted-keys es c.into_iter-nid-iterator.ensures.into_iter_gives.5)))
    (c.loop-nid.invariant.goes_on T s _ (subst (λ (xs : List (ℕ × Option Object)). Says {B = Unit {0}} (λ (u : Unit {0}). u) (unless_crowding T c.args.new xs) (Err c.in_err-unless_past.field-0.0)) (sym c.in-Some.ensures.steps)
    (stop_says {B = Unit {0}} {D = Unit {0}} (λ u. u) (λ u. u) (unless_past T c.args.new (c.in-Some.nid.now, c.in-Some.object.now)) (λ u. unless_crowding T c.args.new c.next.new.self) _
    (c.in_err-unless_past.ensures.answer T (shown_still T c.loop-nid.invariant.looks s))))))

pub returns-in_err-unless_past-clause-looks : goal.returns-in_err-unless_past-clause-looks
returns-in_err-unless_past-clause-looks g c = looks_then c.loop-nid.invariant.looks c.in_err-unless_past.ensures.looks

pub returns-in_err-unless_past-clause-cause : goal.returns-in_err-unless_past-clause-cause
returns-in_err-unless_past-clause-cause g c =
    let p = err_from_is_err_and c.from_residual.result c.from_residual.ensures.1 in
    rw (p.1, p.2) (caused_later g.K.NodeReader.has_disk _ _ c.loop-nid.invariant.looks.world c.in_err-unless_past.ensures.cause)

pub returns-clause-answer : goal.returns-clause-answer
returns-clause-answer g c = λ T s.
    let es = c.args.draft.now.objects.entries in
    subst (λ (xs : List (ℕ × Option Object)). Says (λ (u : Unit {0}). u) (unless_crowding T c.args.new xs) (Ok tt)) (sym (entries-kept es (sorted-keys es c.into_iter-nid-iterator.ensures.into_iter_gives.5)))
    (c.loop-nid.invariant.goes_on T s (Ok tt) (subst (λ (xs : List (ℕ × Option Object)). Says (λ (u : Unit {0}). u) (unless_crowding T c.args.new xs) (Ok tt)) (sym c.in-None.ensures.steps.0) refl))

pub returns-clause-looks : goal.returns-clause-looks
returns-clause-looks g c = c.loop-nid.invariant.looks
