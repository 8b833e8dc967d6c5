use Rattle.std.proofs.Common.{◌≡◌, ◌⊎◌, inl, inr, ◌∙◌, [], ◌∷◌, refl, subst}
use Rattle.pst_outside.specs.Calls.{LeavesOnly}
use Rattle.node_port.specs.Stops.{Room}
use Rattle.store_session.specs.mail_store.Planning.{Alters, StandsFor}
use Rattle.mail_searches.specs.Searching.{Searching}
use Rattle.mail_searches.specs.Step.{after}
use Rattle.store_session.specs.Carrying.{StandsOrdered}
use Rattle.store_session.specs.Disks.{effects_of, medium}
use Rattle.store_session.proofs.Carry.{commit_makes, made_order, plan_commits, plan_made, same_medium, stands_here, stays_has}
use Rattle.store_filling.specs.Filling.{FillTurn}
use Rattle.store_filling.proofs.Commits.{looks_leave, plan_stopped, turn_leaves}
use Rattle.store_filling.proofs.doing.do_command.Goals as goal

pub returns-in-Err-clause-ends : goal.returns-in-Err-clause-ends
returns-in-Err-clause-ends g c = λ tidy X h tells.
    let k = c.args.store.now.store.keeper in
    let v = g.W.Outside.view c.args.w.now in
    let mid = g.W.Outside.view c.plan_counted.new.w in
    let room = g.K.NodeReader.room k in
    let looks = c.plan_counted.ensures.looks in
    let stands = g.K.Keeper.stands room.found in
    let here = stands_here stands tidy X (λ N is. g.met.K.Keeper.held_stands k c.args.w.now N is) h in
    let s = h.stores.tree.shown in
    plan_stopped (effects_of room.pins g.K.Keeper.measures g.K.Keeper.applied g.K.Saver.saved) _ _ tidy X c.args.command.now h.order v mid room (g.met.K.Keeper.held_measures k c.args.w.now s.nodes s.held, refl)
    (StandsOrdered tidy stands) _ c.in-Err.stop (c.in-Err.ensures.answer X h.stores) (stays_has g.K.Keeper.rests _ _ _ _ tidy X looks c.plan_counted.ensures.known h)
    (λ t. same_medium v mid (looks.world.stays.here t) looks.world.stays.written) (looks_leave (StandsOrdered tidy stands) X h.settled looks.world here)

pub returns-in-Ok-commit-clause-ends : goal.returns-in-Ok-commit-clause-ends
returns-in-Ok-commit-clause-ends g c = λ tidy X h tells.
    let k = c.args.store.now.store.keeper in
    let v = g.W.Outside.view c.args.w.now in
    let mid = g.W.Outside.view c.plan_counted.new.w in
    let new = g.W.Outside.view c.commit.new.w in
    let room = g.K.NodeReader.room k in
    let S = g.K.Keeper.stands room.found in
    let s = h.stores.tree.shown in
    let here = stands_here S tidy X (λ N is. g.met.K.Keeper.held_stands k c.args.w.now N is) h in
    let looks = c.plan_counted.ensures.looks in
    let held = stays_has g.K.Keeper.rests _ _ _ _ tidy X looks c.plan_counted.ensures.known h in
    let p = plan_made room tidy X c.args.command.now h.order _ c.in-Ok.planned (c.in-Ok.ensures.answer X h.stores) in
    let is = p.2.0 in
    let Y : Searching = after X p.0 in
    let order = made_order room tidy X c.args.command.now h.order p.0 p.1 in
    let turn : FillTurn = record { reply = c.in-Ok-commit.reply; tree = Y; disk = medium new } in
    let moments = subst (λ r. LeavesOnly mid new (λ i. (i.said ≡ mid.here.said) × (StandsFor (g.K.Keeper.stands r.found i) X.tree ⊎ StandsFor (g.K.Keeper.stands r.found i) Y.tree))) looks.space
    (c.commit.ensures.any_moment X p.0 held.stores is p.2.1 p.2.2 held.settled held.at_rest) in
    let settled = c.in-Ok-commit.ensures.settled held.settled in
    let at_rest = c.in-Ok-commit.ensures.rests held.at_rest in
    record {
      turns = turn ∷ [];
      so = (
        turn,
        refl,
        record {
          room = room;
          measured = (g.met.K.Keeper.held_measures k c.args.w.now s.nodes s.held, refl);
          coming = p.0;
          answers = p.1;
          reply = c.in-Ok-commit.ensures.reply ∙ is.reply_is;
          tree = refl;
          fits = p.3;
          disk = λ t. commit_makes (g.K.Keeper.fits c.plan_counted.new.store.store.keeper mid) (g.K.Keeper.applied room.pins) g.K.Keeper.cost X.tree p.0 c.in-Ok.planned.tree.change v mid new
              (looks.world.stays.here (c.commit.ensures.told t)) looks.world.stays.written c.commit.ensures.written is.carries is.changes
              (subst (λ (r : Room). Alters (g.K.Keeper.fits c.plan_counted.new.store.store.keeper mid) (g.K.Keeper.applied r.pins) g.K.Keeper.cost c.in-Ok.planned.tree.change mid.here new.here) looks.space (c.in-Ok-commit.ensures.applied X held.stores held.at_rest t));
        },
        refl,
        refl,
        record { stores = c.in-Ok-commit.ensures.made X p.0 held.stores is p.2.1 p.2.2 held.at_rest tells; order = order; settled = settled; at_rest = at_rest },
      );
      images = turn_leaves (StandsOrdered tidy S) X turn (plan_commits tidy S X Y h.settled looks.world here order c.commit.ensures.told moments);
    }

pub returns-in-Err-commit-clause-ends : goal.returns-in-Err-commit-clause-ends
returns-in-Err-commit-clause-ends g c = λ tidy X h tells.
    let k = c.args.store.now.store.keeper in
    let v = g.W.Outside.view c.args.w.now in
    let mid = g.W.Outside.view c.plan_counted.new.w in
    let new = g.W.Outside.view c.commit.new.w in
    let room = g.K.NodeReader.room k in
    let S = g.K.Keeper.stands room.found in
    let s = h.stores.tree.shown in
    let here = stands_here S tidy X (λ N is. g.met.K.Keeper.held_stands k c.args.w.now N is) h in
    let looks = c.plan_counted.ensures.looks in
    let held = stays_has g.K.Keeper.rests _ _ _ _ tidy X looks c.plan_counted.ensures.known h in
    let p = plan_made room tidy X c.args.command.now h.order _ c.in-Ok.planned (c.in-Ok.ensures.answer X h.stores) in
    let is = p.2.0 in
    let Y : Searching = after X p.0 in
    let turn : FillTurn = record { reply = p.0.outcome.reply; tree = Y; disk = medium new } in
    let moments = subst (λ r. LeavesOnly mid new (λ i. (i.said ≡ mid.here.said) × (StandsFor (g.K.Keeper.stands r.found i) X.tree ⊎ StandsFor (g.K.Keeper.stands r.found i) Y.tree))) looks.space
    (c.commit.ensures.any_moment X p.0 held.stores is p.2.1 p.2.2 held.settled held.at_rest) in
    record {
      turns = turn ∷ [];
      so = inr (turn, refl, record { room = room; measured = (g.met.K.Keeper.held_measures k c.args.w.now s.nodes s.held, refl); coming = p.0; answers = p.1; reply = refl; tree = refl; fits = p.3; disk = λ none. absurd none });
      images = turn_leaves (StandsOrdered tidy S) X turn (plan_commits tidy S X Y h.settled looks.world here (made_order room tidy X c.args.command.now h.order p.0 p.1) c.commit.ensures.told moments);
    }
