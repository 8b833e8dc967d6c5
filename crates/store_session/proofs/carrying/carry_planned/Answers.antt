use Rattle.std.proofs.Common.{◌≡◌, ◌⊎◌, inr, refl, subst}
use Rattle.pst_outside.specs.Calls.{LeavesOnly}
use Rattle.node_port.specs.Stops.{Room}
use Rattle.search_store.specs.mail_store.Planning.{Alters, StandsFor}
use Rattle.mail_searches.specs.Searching.{Searching}
use Rattle.mail_searches.specs.Step.{after}
use Rattle.store_session.specs.Carrying.{StandsOrdered}
use Rattle.store_session.specs.Disks.{effects_of, medium}
use Rattle.store_session.proofs.Carry.{commit_makes, made_answers, made_order, memory_text, plan_commits, plan_made, quiet_leaves, same_medium, stands_here, stays_has, stop_carries}
use Rattle.store_session.proofs.carrying.carry_planned.Goals as goal

pub returns-in-Err-clause-carries : goal.returns-in-Err-clause-carries
returns-in-Err-clause-carries g c = λ tidy X h tells.
    let k = c.args.store.now.store.keeper in
    let v = g.W.Outside.view c.args.world.now in
    let looks = c.plan_counted.ensures.looks in
    let S = StandsOrdered tidy (g.K.Keeper.stands (g.K.NodeReader.room k).found) in
    let here = stands_here (g.K.Keeper.stands (g.K.NodeReader.room k).found) tidy X (λ N is. g.met.K.Keeper.held_stands k c.args.world.now N is) h in
    stop_carries (g.K.NodeReader.room k) tidy X c.args.command.now h.order _ (effects_of (g.K.NodeReader.room c.args.store.now.store.keeper).pins g.K.Keeper.measures g.K.Keeper.applied g.K.Saver.saved) _ S v (g.W.Outside.view c.plan_counted.new.w) (λ t. same_medium v (g.W.Outside.view c.plan_counted.new.w) (looks.world.stays.here t) looks.world.stays.written) c.requires.other c.in-Err.stop c.stopped.result c.stopped.ensures (c.in-Err.ensures.answer X h.stores)
    (stays_has g.K.Keeper.rests _ _ _ _ tidy X looks c.plan_counted.ensures.known h) (quiet_leaves S X X h.settled looks.world here)

pub returns-in_default-clause-carries : goal.returns-in_default-clause-carries
returns-in_default-clause-carries g c = λ tidy X h tells.
    let k = c.args.store.now.store.keeper in
    let v = g.W.Outside.view c.args.world.now in
    let looks = c.plan_counted.ensures.looks in
    let here = stands_here (g.K.Keeper.stands (g.K.NodeReader.room k).found) tidy X (λ N is. g.met.K.Keeper.held_stands k c.args.world.now N is) h in
    (X, inr (memory_text, (refl, λ t. same_medium v (g.W.Outside.view c.plan_counted.new.w) (looks.world.stays.here t) looks.world.stays.written)), stays_has g.K.Keeper.rests _ _ _ _ tidy X looks c.plan_counted.ensures.known h, quiet_leaves (StandsOrdered tidy (g.K.Keeper.stands (g.K.NodeReader.room k).found)) X X h.settled looks.world here)

pub returns-in-Ok-commit-clause-carries : goal.returns-in-Ok-commit-clause-carries
returns-in-Ok-commit-clause-carries g c = λ tidy X h tells.
    let k = c.args.store.now.store.keeper in
    let v = g.W.Outside.view c.args.world.now in
    let mid = g.W.Outside.view c.plan_counted.new.w in
    let new = g.W.Outside.view c.commit.new.w in
    let room = g.K.NodeReader.room k in
    let effects = effects_of (g.K.NodeReader.room c.args.store.now.store.keeper).pins g.K.Keeper.measures g.K.Keeper.applied g.K.Saver.saved in
    let S = g.K.Keeper.stands room.found in
    let here = stands_here (g.K.Keeper.stands (g.K.NodeReader.room k).found) tidy X (λ N is. g.met.K.Keeper.held_stands k c.args.world.now N is) h in
    let looks = c.plan_counted.ensures.looks in
    let held = stays_has g.K.Keeper.rests _ _ _ _ tidy X looks c.plan_counted.ensures.known h in
    let p = plan_made room tidy X c.args.command.now h.order _ c.in-Ok.planned (c.in-Ok.ensures.answer X h.stores) in
    let is = p.2.0 in
    let Y : Searching = after X p.0 in
    let moments = subst (λ r. LeavesOnly mid new (λ i. (i.said ≡ mid.here.said) × (StandsFor (g.K.Keeper.stands r.found i) X.tree ⊎ StandsFor (g.K.Keeper.stands r.found i) Y.tree))) looks.space
    (c.commit.ensures.any_moment X p.0 held.stores is p.2.1 p.2.2 held.settled held.at_rest) in
    let settled = c.in-Ok-commit.ensures.settled held.settled in
    let at_rest = c.in-Ok-commit.ensures.rests held.at_rest in (
      Y,
      made_answers room tidy X c.args.command.now h.order effects new.tells (medium v) (medium new) p.0 c.in-Ok.planned.tree.reply c.in-Ok-reply_text.text p.1 c.requires.other p.3 is.reply_is c.in-Ok-reply_text.ensures
          (λ t. commit_makes (g.K.Keeper.fits c.plan_counted.new.store.store.keeper mid) (g.K.Keeper.applied room.pins) g.K.Keeper.cost X.tree p.0 c.in-Ok.planned.tree.change v mid new
          (looks.world.stays.here (c.commit.ensures.told t)) looks.world.stays.written c.commit.ensures.written is.carries is.changes
          (subst (λ (r : Room). Alters (g.K.Keeper.fits c.plan_counted.new.store.store.keeper mid) (g.K.Keeper.applied r.pins) g.K.Keeper.cost c.in-Ok.planned.tree.change mid.here new.here) looks.space (c.in-Ok-commit.ensures.applied X held.stores held.at_rest t))),
      record { stores = c.in-Ok-commit.ensures.made X p.0 held.stores is p.2.1 p.2.2 held.at_rest tells; order = made_order room tidy X c.args.command.now h.order p.0 p.1; settled = settled; at_rest = at_rest },
      plan_commits tidy S X Y h.settled looks.world here (made_order room tidy X c.args.command.now h.order p.0 p.1) c.commit.ensures.told moments,
    )

pub returns-in-Err-commit-clause-carries : goal.returns-in-Err-commit-clause-carries
returns-in-Err-commit-clause-carries g c = λ tidy X h tells.
    let k = c.args.store.now.store.keeper in
    let v = g.W.Outside.view c.args.world.now in
    let mid = g.W.Outside.view c.plan_counted.new.w in
    let new = g.W.Outside.view c.commit.new.w in
    let room = g.K.NodeReader.room k in
    let effects = effects_of (g.K.NodeReader.room c.args.store.now.store.keeper).pins g.K.Keeper.measures g.K.Keeper.applied g.K.Saver.saved in
    let S = g.K.Keeper.stands room.found in
    let here = stands_here (g.K.Keeper.stands (g.K.NodeReader.room k).found) tidy X (λ N is. g.met.K.Keeper.held_stands k c.args.world.now N is) h in
    let looks = c.plan_counted.ensures.looks in
    let held = stays_has g.K.Keeper.rests _ _ _ _ tidy X looks c.plan_counted.ensures.known h in
    let p = plan_made room tidy X c.args.command.now h.order _ c.in-Ok.planned (c.in-Ok.ensures.answer X h.stores) in
    let is = p.2.0 in
    let Y : Searching = after X p.0 in
    let moments = subst (λ r. LeavesOnly mid new (λ i. (i.said ≡ mid.here.said) × (StandsFor (g.K.Keeper.stands r.found i) X.tree ⊎ StandsFor (g.K.Keeper.stands r.found i) Y.tree))) looks.space
    (c.commit.ensures.any_moment X p.0 held.stores is p.2.1 p.2.2 held.settled held.at_rest) in (
      Y,
      c.in-Ok-reply_text.text,
      made_answers room tidy X c.args.command.now h.order effects ⊥ (medium v) (medium new) p.0 c.in-Ok.planned.tree.reply c.in-Ok-reply_text.text p.1 c.requires.other p.3 is.reply_is c.in-Ok-reply_text.ensures (λ none. absurd none),
      plan_commits tidy S X Y h.settled looks.world here (made_order room tidy X c.args.command.now h.order p.0 p.1) c.commit.ensures.told moments,
    )
