use Rattle.std.proofs.Common.{◌≤◌, ℕ, subst, sym}
use Rattle.mail_searches.specs.Step.{outcome}
use Rattle.pinned_session.specs.store_session.search_store.Planning.{PlansComing}
use Rattle.staged_nodes.specs.Sizes.{MOST_STAGED}
use Rattle.staged_store.specs.Planning.{PlansWithin}
use Rattle.staged_store.specs.Saying.{Underway, left}
use Rattle.staged_store.specs.Standing.{IsUnderway}
use Rattle.staged_store.specs.Telling.{Keeps}
use Rattle.staged_store.proofs.RespondLaws.{stage_stops}
use Rattle.staged_store.proofs.staging.stage.Goals as goal

pub returns-in-Ok-clause-stages : goal.returns-in-Ok-clause-stages
returns-in-Ok-clause-stages g c = λ base tidy U held is.
    let room = g.K.NodeReader.room c.args.under.store.store.keeper in
    let done = c.plan_within-under.ensures in
    let plans = subst (λ r. PlansComing (left room U) (PlansWithin c.plan_within-under.result.0.staging U.now) (outcome U.now c.args.command.now) r) c.in-Ok.is (done.answer base tidy U held is) in
    c.finish-under.ensures.finishes base room tidy U c.args.command.now (done.underway base tidy U held is) plans

pub returns-in-Ok-clause-stays : goal.returns-in-Ok-clause-stays
returns-in-Ok-clause-stays g c = λ base tidy U held is.
    let v = g.W.Outside.view c.args.world.now in
    let w = g.W.Outside.view c.plan_within-under.new.world in
    let old = c.args.under.store.store.keeper in
    subst (λ k. Keeps (g.K.NodeReader.holds old v) (g.K.NodeReader.holds k w) (g.K.NodeReader.pinned old v) (g.K.NodeReader.pinned k w) (g.K.NodeReader.last old) (g.K.NodeReader.last k) (g.K.NodeReader.room old) (g.K.NodeReader.room k)) (sym c.finish-under.ensures.keeper) (c.plan_within-under.ensures.stays base tidy U held is)

pub returns-in-Err-clause-stages : goal.returns-in-Err-clause-stages
returns-in-Err-clause-stages g c = λ base tidy U held is.
    let room = g.K.NodeReader.room c.args.under.store.store.keeper in
    let done = c.plan_within-under.ensures in
    let under = c.plan_within-under.result.0 in
    let few = subst (λ (n : ℕ). n ≤ MOST_STAGED) is.has.staged.size is.has.staged.few in
    let stops = subst (λ r. PlansComing (left room U) (PlansWithin under.staging U.now) (outcome U.now c.args.command.now) r) c.in-Err.is (done.answer base tidy U held is) in
    stage_stops room U (λ (Z : Underway). IsUnderway base room under tidy Z) tidy is.has.order c.args.command.now (done.underway base tidy U held is) few (PlansWithin under.staging U.now) c.in-Err.stop c.stopped.result c.stopped.ensures stops
