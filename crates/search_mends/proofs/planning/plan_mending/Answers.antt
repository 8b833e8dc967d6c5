use Rattle.std.proofs.Common.{refl, subst, sym}
use Rattle.store_session.proofs.mail_draft_laws.Looking.{shown_still}
use Rattle.store_session.specs.mail_draft.Drafts.{changed_of}
use Rattle.store_session.specs.mail_store.Planning.{IsHindered}
use Rattle.store_session.specs.mail_store.Space.{HasRoom}
use Rattle.search_mends.specs.Mendings.{mending_of}
use Rattle.search_mends.specs.Stops.{IsCaused, StopsMending}
use Rattle.search_mends.proofs.PlanLaws.{caused_hindrance, caused_refusal, hinders_so, mends_to, refused_stops, stays_quiet}
use Rattle.search_mends.proofs.planning.plan_mending.Goals as goal

pub returns-in-Err-clause-answer : goal.returns-in-Err-clause-answer
returns-in-Err-clause-answer g c = λ tidy X s order own.
    let f = c.args.search.bits in
    subst (StopsMending (g.K.NodeReader.room c.args.store.now.store.keeper) X f) (sym c.of_refusal.ensures)
    (refused_stops tidy X f order own _ c.args.search c.in-Err.stop refl (c.in-Err.ensures.answer X s.tree.shown s.tree.knows s.searches order.whole))

pub returns-in-Err-clause-cause : goal.returns-in-Err-clause-cause
returns-in-Err-clause-cause g c = rw c.of_refusal.ensures (caused_refusal _ _ _ c.args.search c.in-Err.stop c.in-Err.ensures.cause)

pub returns-in-Ok-plan_outcome-clause-answer : goal.returns-in-Ok-plan_outcome-clause-answer
returns-in-Ok-plan_outcome-clause-answer g c = λ tidy X s order own.
    let f = c.args.search.bits in
    let v = c.in-Ok.made in
    let e = mends_to tidy X f order own v (c.in-Ok.ensures.answer X s.tree.shown s.tree.knows s.searches order.whole) in
    let still = shown_still X.tree c.in-Ok.ensures.looks s.tree.shown in
    let made = c.in-Ok-plan_outcome.ensures.answer X.tree (record { shown = still; knows = s.tree.knows }) (stays_quiet tidy X f order own (mending_of X v) e) in
    (mending_of X v, e, (refl, refl, made.0), subst (λ room. HasRoom room (changed_of v.outcome.draft)) c.in-Ok.ensures.looks.space made.1)

pub returns-in-Err-plan_outcome-clause-answer : goal.returns-in-Err-plan_outcome-clause-answer
returns-in-Err-plan_outcome-clause-answer g c = λ tidy X s order own.
    let f = c.args.search.bits in
    let v = c.in-Ok.made in
    let stop = c.in-Err-plan_outcome.stop in
    let e = mends_to tidy X f order own v (c.in-Ok.ensures.answer X s.tree.shown s.tree.knows s.searches order.whole) in
    let still = shown_still X.tree c.in-Ok.ensures.looks s.tree.shown in
    let hindered = c.in-Err-plan_outcome.ensures.answer X.tree (record { shown = still; knows = s.tree.knows }) (stays_quiet tidy X f order own (mending_of X v) e) in
    subst (StopsMending (g.K.NodeReader.room c.args.store.now.store.keeper) X f) (sym c.of_hindrance.ensures)
    (hinders_so _ X f c.args.search (mending_of X v) stop e (subst (λ room. IsHindered room (changed_of v.outcome.draft) stop) c.in-Ok.ensures.looks.space hindered))

pub returns-in-Err-plan_outcome-clause-cause : goal.returns-in-Err-plan_outcome-clause-cause
returns-in-Err-plan_outcome-clause-cause g c = rw c.of_hindrance.ensures (caused_hindrance _ _ _ _ c.args.search c.in-Err-plan_outcome.stop c.in-Ok.ensures.looks.world.counts.disk_faults c.in-Err-plan_outcome.ensures.cause)
