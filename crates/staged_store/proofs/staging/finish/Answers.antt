use Rattle.std.proofs.Common.{◌≤◌, ℕ, refl, subst}
use Rattle.line_server.specs.declared.spoken.Spoken.TheVariants.{NoMemory, Reply}
use Rattle.pinned_session.proofs.store_session_laws.Carry.{plan_made}
use Rattle.staged_nodes.specs.Sizes.{MOST_STAGED}
use Rattle.staged_nodes.specs.Staging.{Fits}
use Rattle.staged_store.specs.Planning.{PlansWithin}
use Rattle.staged_store.specs.Saying.{Underway, left}
use Rattle.staged_store.specs.Standing.{IsUnderway}
use Rattle.staged_store.proofs.MakeLaws.{fits_same, plans_alike, too_much}
use Rattle.staged_store.proofs.RespondLaws.{stage_full, stage_lacks, stage_made}
use Rattle.staged_store.proofs.UnderLaws.{underway_room}
use Rattle.staged_store.proofs.staging.finish.Goals as goal

pub returns-then-is_too_much-clause-finishes : goal.returns-then-is_too_much-clause-finishes
returns-then-is_too_much-clause-finishes g c = λ base room tidy U d is planned.
    let s = c.args.under.staging in
    let made = plan_made (left room U) tidy U.now d is.has.order (PlansWithin s U.now) c.args.planned planned in
    let few = subst (λ (n : ℕ). n ≤ MOST_STAGED) is.has.staged.size is.has.staged.few in
    stage_full room U (λ (Z : Underway). IsUnderway base room c.args.under tidy Z) tidy is.has.order d is few made.0 c.transaction_spoken.result made.1
    (too_much s U.now.tree made.0 U.nodes c.args.planned.tree.change is.has.staged made.2.0.carries made.2.0.changes (c.is_too_much.ensures.full c.if-is_too_much.true)) c.transaction_spoken.ensures

pub returns-in_default-clause-finishes : goal.returns-in_default-clause-finishes
returns-in_default-clause-finishes g c = λ base room tidy U d is planned.
    let few = subst (λ (n : ℕ). n ≤ MOST_STAGED) is.has.staged.size is.has.staged.few in
    stage_lacks room U (λ (Z : Underway). IsUnderway base room c.args.under tidy Z) tidy is.has.order d is few NoMemory refl

pub returns-in_default-make_room-clause-finishes : goal.returns-in_default-make_room-clause-finishes
returns-in_default-make_room-clause-finishes g c = λ base room tidy U d is planned.
    let under = c.args.under in
    let r = c.make_room.new.staging in
    let fits = c.make_room.ensures in
    let few = subst (λ (n : ℕ). n ≤ MOST_STAGED) is.has.staged.size is.has.staged.few in
    stage_lacks room U (λ (Z : Underway). IsUnderway base room (record { store = under.store; staging = r; views = under.views }) tidy Z) tidy is.has.order d (underway_room base room tidy U under (record { store = under.store; staging = r; views = under.views }) fits.same fits.counts fits.left fits.size refl refl refl is) few NoMemory refl

pub returns-clause-finishes : goal.returns-clause-finishes
returns-clause-finishes g c = λ base room tidy U d is planned.
    let under = c.args.under in
    let s = under.staging in
    let r = c.make_room.new.staging in
    let p = c.args.planned in
    let fits = c.make_room.ensures in
    let made = plan_made (left room U) tidy U.now d is.has.order (PlansWithin s U.now) p planned in
    let o = made.0 in
    let under_now = underway_room base room tidy U under (record { store = under.store; staging = r; views = under.views }) fits.same fits.counts fits.left fits.size refl refl refl is in
    let plans = plans_alike (Fits s) (Fits r) (fits_same s r fits.same fits.size) U.now.tree o.outcome p.tree.change p.tree.places p.tree.flags.items p.tree.reply made.2.0 in
    let leaves = c.make_changes.ensures.made base room tidy U d o under_now made.1 (plans, made.2.1, made.2.2) made.3 (c.is_too_much.ensures.few c.if-is_too_much.false) in
    let has = λ (Z : Underway). IsUnderway base room c.make_changes.result tidy Z in
    let few = subst (λ (n : ℕ). n ≤ MOST_STAGED) leaves.2.has.staged.size leaves.2.has.staged.few in
    stage_made room U has tidy is.has.order d o (Reply c.in-Ok.text) leaves.0 p.tree.reply made.1 made.3 plans.reply_is c.in-Ok.ensures leaves.1 few leaves.2
