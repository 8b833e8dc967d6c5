use Rattle.std.proofs.Common.{ℕ, refl, subst}
use Rattle.mail_searches.specs.Step.{outcome}
use Rattle.pinned_session.specs.store_session.search_store.Planning.{PlansComing}
use Rattle.staged_nodes.specs.Room.{room_beside}
use Rattle.staged_store.specs.Planning.{PlansWithin}
use Rattle.staged_store.proofs.UnderLaws.{underway_known}
use Rattle.staged_store.proofs.staging.plan_within.Goals as goal

pub returns-clause-answer : goal.returns-clause-answer
returns-clause-answer g c = λ base tidy U held is.
    let room = g.K.NodeReader.room c.args.under.store.store.keeper in
    subst (λ (n : ℕ). PlansComing (room_beside n room) (PlansWithin c.args.under.staging U.now) (outcome U.now c.args.command.now) c.plan_keeping-store.result.1) is.has.staged.size (c.plan_keeping-store.ensures.answer base tidy U.nodes U.now held is.has)

pub returns-clause-underway : goal.returns-clause-underway
returns-clause-underway g c = λ base tidy U held is.
    underway_known base (g.K.NodeReader.room c.args.under.store.store.keeper) tidy U c.args.under (record { store = c.plan_keeping-store.result.0; staging = c.args.under.staging; views = c.args.under.views }) c.plan_keeping-store.ensures.known.0 c.plan_keeping-store.ensures.known.1 refl refl is

pub returns-clause-stays : goal.returns-clause-stays
returns-clause-stays g c = λ base tidy U held is. c.plan_keeping-store.ensures.stays base tidy U.nodes U.now held is.has
