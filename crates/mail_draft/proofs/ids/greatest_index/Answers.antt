use Rattle.std.proofs.Common.{ℕ, ◌==◌, ◌<◌, ◌^◌, ap, sym, subst, ◌∙◌, arith}
use Rattle.std.proofs.lemmas.Result.{err_from_is_err_and}
use Rattle.std.specs.List.{list_any}
use Rattle.mail_draft.specs.Walks.{IsNextTaken}
use Rattle.mail_draft.proofs.Looking.{caused_later, looks_same, looks_then, shown_still}
use Rattle.mail_draft.proofs.WalkLaws.{counter_past, reaches_all, reaches_counter, reaches_kind, reaches_other}
use Rattle.mail_draft.proofs.ids.greatest_index.Goals as goal

pub returns-then-from-gt-LAST_INDEX-clause-answer : goal.returns-then-from-gt-LAST_INDEX-clause-answer
returns-then-from-gt-LAST_INDEX-clause-answer g c = λ T s. counter_past T c.args.kinds.now c.args.counter (omega (arith, c.if-from-gt-LAST_INDEX.true, c.from.ensures))

pub loop-next-init : goal.loop-next-init
loop-next-init g c = record {
  below = omega (arith, c.make_nid-at.ensures, c.if-from-gt-LAST_INDEX.false, c.from.ensures);
  looks = looks_same _ _ _ _;
  reaches = λ T s. reaches_counter T c.args.kinds.now c.args.counter c.make_nid-at.result.bits c.requires (omega (arith, c.if-from-gt-LAST_INDEX.false, c.from.ensures)) c.make_nid-at.ensures;
}

pub returns-in_err-next-clause-answer : goal.returns-in_err-next-clause-answer
returns-in_err-next-clause-answer g c =
    let p = err_from_is_err_and c.from_residual.result c.from_residual.ensures.1 in
    rw (p.1, p.2) (λ T s. c.in_err-next.ensures.answer T (shown_still T c.loop-next.invariant.looks s))

pub returns-in_err-next-clause-looks : goal.returns-in_err-next-clause-looks
returns-in_err-next-clause-looks g c = looks_then c.loop-next.invariant.looks c.in_err-next.ensures.looks

pub returns-in_err-next-clause-cause : goal.returns-in_err-next-clause-cause
returns-in_err-next-clause-cause g c =
    let p = err_from_is_err_and c.from_residual.result c.from_residual.ensures.1 in
    rw (p.1, p.2) (caused_later g.K.NodeReader.has_disk _ _ c.loop-next.invariant.looks.world c.in_err-next.ensures.cause)

pub loop-next-smaller-then-contains : goal.loop-next-smaller-then-contains
loop-next-smaller-then-contains g c =
    let more : c.loop-next.at.bits < c.in-Some.next.bits = rw c.in-Some.is at c.in_ok-next.ensures.rises in
    omega (arith, more, c.loop-next.invariant.below)

pub loop-next-preserved-then-contains : goal.loop-next-preserved-then-contains
loop-next-preserved-then-contains g c =
    let fits : c.in-Some.next.bits < 2 ^ 32 = rw c.in-Some.is at c.in_ok-next.ensures.fits in
    let kind_in = λ (k : ℕ). list_any (λ x. x == k) c.args.kinds.now in
    record {
      below = fits;
      looks = looks_then c.loop-next.invariant.looks c.in_ok-next.ensures.looks;
      reaches = λ T s. reaches_kind T c.args.kinds.now c.args.counter c.loop-next.at.bits c.loop-next.greatest c.index-greatest.result c.in-Some.next fits
          (subst (IsNextTaken T c.loop-next.at.bits) c.in-Some.is (c.in_ok-next.ensures.answer T (shown_still T c.loop-next.invariant.looks s)))
          c.index-greatest.ensures (ap kind_in (sym c.kind.ensures) ∙ sym c.contains.ensures.value ∙ c.if-contains.true) (c.loop-next.invariant.reaches T s);
    }

pub loop-next-smaller : goal.loop-next-smaller
loop-next-smaller g c =
    let more : c.loop-next.at.bits < c.in-Some.next.bits = rw c.in-Some.is at c.in_ok-next.ensures.rises in
    omega (arith, more, c.loop-next.invariant.below)

pub loop-next-preserved : goal.loop-next-preserved
loop-next-preserved g c =
    let fits : c.in-Some.next.bits < 2 ^ 32 = rw c.in-Some.is at c.in_ok-next.ensures.fits in
    let kind_in = λ (k : ℕ). list_any (λ x. x == k) c.args.kinds.now in
    record {
      below = fits;
      looks = looks_then c.loop-next.invariant.looks c.in_ok-next.ensures.looks;
      reaches = λ T s. reaches_other T c.args.kinds.now c.args.counter c.loop-next.at.bits c.loop-next.greatest c.in-Some.next c.requires
          (subst (IsNextTaken T c.loop-next.at.bits) c.in-Some.is (c.in_ok-next.ensures.answer T (shown_still T c.loop-next.invariant.looks s)))
          (ap kind_in (sym c.kind.ensures) ∙ sym c.contains.ensures.value ∙ c.if-contains.false) (c.loop-next.invariant.reaches T s);
    }

pub returns-clause-answer : goal.returns-clause-answer
returns-clause-answer g c = λ T s.
    reaches_all T c.args.kinds.now c.args.counter c.loop-next.at.bits c.loop-next.greatest
    (subst (IsNextTaken T c.loop-next.at.bits) c.in_default.is (c.in_ok-next.ensures.answer T (shown_still T c.loop-next.invariant.looks s))) (c.loop-next.invariant.reaches T s)

pub returns-clause-looks : goal.returns-clause-looks
returns-clause-looks g c = looks_then c.loop-next.invariant.looks c.in_ok-next.ensures.looks
