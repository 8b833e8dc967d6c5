use Rattle.std.proofs.Common.{◌∙◌, inl, inr, refl}
use Rattle.store_session.proofs.mail_draft_laws.DeskCalls.{both_change, changes_come, changes_come_exit, drafts_then, first_exits}
use Rattle.search_mends.proofs.MendingLaws.{mended_exit, mends_both, one_of_two}
use Rattle.search_mends.proofs.coming.mending_with.Goals.{then-stale, else-stale}
use Rattle.search_mends.proofs.coming.mending_with.Goals as goal

pub returns-in_err-turned-clause-answer : goal.returns-in_err-turned-clause-answer
returns-in_err-turned-clause-answer g c =
    mended_exit _ _ _ _ _ refl
    (changes_come_exit {Y = Unit {0}} {mid = g.D.Desk.view c.args.desk.now} _
    (first_exits {Y = Unit {0}} {mid = g.D.Desk.view c.args.desk.now} _ (first_exits _ c.in_err-turned.ensures.answer refl) refl) refl) c.from_residual.ensures.1

pub returns-in_err-with_list-clause-answer : goal.returns-in_err-with_list-clause-answer
returns-in_err-with_list-clause-answer g c =
    let first = c.in_ok-turned.ensures in
    mended_exit _ _ _ _ _ refl
    (changes_come_exit {Y = Unit {0}} {mid = g.D.Desk.view c.args.desk.now} _
    (first_exits _ (both_change _ first.answer first.drafts c.in_err-with_list.ensures.answer) refl) refl) c.from_residual-in_err-with_list.ensures.1

pub returns-in_err-touched_if-clause-answer : goal.returns-in_err-touched_if-clause-answer
returns-in_err-touched_if-clause-answer g c =
    let first = c.in_ok-turned.ensures in let second = c.in_ok-with_list.ensures in
    let is = one_of_two _ _ _ _ _ c.is_some-stale.ensures c.is_first-first.ensures (elim c.if-stale.branch [ then-stale w ↦ inl (w.if-stale.true, w.touched_if-is ∙ w.if-stale.true) | else-stale w ↦ inr (w.if-stale.false, w.touched_if-is) ]) in
    mended_exit _ _ _ _ _ is
    (changes_come_exit _ (both_change _ (both_change _ first.answer first.drafts second.answer) (drafts_then first.drafts second.drafts) c.in_err-touched_if.ensures.answer) refl) c.from_residual-in_err-touched_if.ensures.1

pub returns-in_err-coming-clause-answer : goal.returns-in_err-coming-clause-answer
returns-in_err-coming-clause-answer g c =
    let first = c.in_ok-turned.ensures in let second = c.in_ok-with_list.ensures in let third = c.in_ok-touched_if.ensures in
    let is = one_of_two _ _ _ _ _ c.is_some-stale.ensures c.is_first-first.ensures (elim c.if-stale.branch [ then-stale w ↦ inl (w.if-stale.true, w.touched_if-is ∙ w.if-stale.true) | else-stale w ↦ inr (w.if-stale.false, w.touched_if-is) ]) in
    mended_exit _ _ _ _ _ is
    (changes_come _ (both_change _ (both_change _ first.answer first.drafts second.answer) (drafts_then first.drafts second.drafts) third.answer) (drafts_then (drafts_then first.drafts second.drafts) third.drafts)
    c.in_err-coming.ensures.answer) c.from_residual-in_err-coming.ensures.1

pub returns-clause-answer : goal.returns-clause-answer
returns-clause-answer g c =
    let first = c.in_ok-turned.ensures in let second = c.in_ok-with_list.ensures in let third = c.in_ok-touched_if.ensures in
    let is = one_of_two _ _ _ _ _ c.is_some-stale.ensures c.is_first-first.ensures (elim c.if-stale.branch [ then-stale w ↦ inl (w.if-stale.true, w.touched_if-is ∙ w.if-stale.true) | else-stale w ↦ inr (w.if-stale.false, w.touched_if-is) ]) in
    mends_both _ _ _ _ _ is
    (changes_come _ (both_change _ (both_change _ first.answer first.drafts second.answer) (drafts_then first.drafts second.drafts) third.answer) (drafts_then (drafts_then first.drafts second.drafts) third.drafts)
    c.in_ok-coming.ensures.answer) c.is_some-stale.ensures c.is_first-first.ensures
