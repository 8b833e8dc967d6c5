use Rattle.std.proofs.Common.{◌≡◌, ◌⊎◌, subst, sym}
use Rattle.std.proofs.lemmas.Result.{err_from_is_err_and}
use Rattle.pst_outside.specs.Calls.{LeavesOnly}
use Rattle.store_session.specs.mail_store.Planning.{Alters, StandsFor}
use Rattle.node_port.specs.Stops.{Room}
use Rattle.store_session.proofs.Carry.{commit_makes, same_medium}
use Rattle.mail_searches.specs.Step.{after}
use Rattle.search_mends.specs.Stops.{StopsMending}
use Rattle.search_mends.proofs.OneLaws.{commit_leaves, plan_leaves, stands_here, stays_has}
use Rattle.search_mends.proofs.PlanLaws.{caused_later, mends_so, unless_fault}
use Rattle.search_mends.specs.declared.stop.MendStop.TheVariants.{Fault}
use Rattle.search_mends.proofs.one.mend_one.Goals as goal

pub returns-in_err-stale-clause-mends : goal.returns-in_err-stale-clause-mends
returns-in_err-stale-clause-mends g c =
    let p = err_from_is_err_and c.from_residual.result c.from_residual.ensures.1 in
    let stop = c.in_err-stale.field-0.0 in
    rw (p.1, p.2) (λ tidy X h own tells. (
      subst (λ room. StopsMending room X c.args.search.bits stop) (sym c.in_err-stale.ensures.looks.space) (c.in_err-stale.ensures.answer tidy X h.stores h.order own),
      unless_fault stop (stays_has g.K.NodeReader.holds g.K.NodeReader.last g.K.Keeper.rests c.args.store.now c.plan_mending.new.store tidy X c.in_err-stale.ensures.looks c.in_err-stale.ensures.known h),
    ))

pub returns-in_err-stale-clause-images : goal.returns-in_err-stale-clause-images
returns-in_err-stale-clause-images g c = λ tidy X h own.
    let k = c.args.store.now.store.keeper in
    let stands = g.K.Keeper.stands (g.K.NodeReader.room k).found in
    plan_leaves stands X c.args.search.bits h.settled c.in_err-stale.ensures.looks.world
    (stands_here g.K.NodeReader.holds g.K.NodeReader.last g.K.Keeper.rests c.args.store.now (g.W.Outside.view c.args.w.now) stands tidy X (λ N is. g.met.K.Keeper.held_stands k c.args.w.now N is) h)

pub returns-clause-mends : goal.returns-clause-mends
returns-clause-mends g c = λ tidy X h own tells.
    let f = c.args.search.bits in
    let held = stays_has g.K.NodeReader.holds g.K.NodeReader.last g.K.Keeper.rests c.args.store.now c.plan_mending.new.store tidy X c.in_ok-stale.ensures.looks c.in_ok-stale.ensures.known h in
    let p = c.in_ok-stale.ensures.answer tidy X h.stores h.order own in
    let is = mends_so tidy X f h.order own p.0 p.1 in
    let settled = c.in_ok-_reply.ensures.settled held.settled in
    let at_rest = c.in_ok-_reply.ensures.rests held.at_rest in (
      p.0,
      p.1,
      p.2.0,
      p.2.1,
      record { stores = c.in_ok-_reply.ensures.made X p.0.coming held.stores p.2.2 is.own is.searches held.at_rest tells; order = is.order; settled = settled; at_rest = at_rest },
    )

pub returns-clause-images : goal.returns-clause-images
returns-clause-images g c = λ tidy X h own.
    let f = c.args.search.bits in
    let k = c.args.store.now.store.keeper in
    let mid = g.W.Outside.view c.plan_mending.new.w in
    let new = g.W.Outside.view c.commit.new.w in
    let stands = g.K.Keeper.stands (g.K.NodeReader.room k).found in
    let here = stands_here g.K.NodeReader.holds g.K.NodeReader.last g.K.Keeper.rests c.args.store.now (g.W.Outside.view c.args.w.now) stands tidy X (λ N is. g.met.K.Keeper.held_stands k c.args.w.now N is) h in
    let looks = c.in_ok-stale.ensures.looks in
    let held = stays_has g.K.NodeReader.holds g.K.NodeReader.last g.K.Keeper.rests c.args.store.now c.plan_mending.new.store tidy X looks c.in_ok-stale.ensures.known h in
    let p = c.in_ok-stale.ensures.answer tidy X h.stores h.order own in
    let is = mends_so tidy X f h.order own p.0 p.1 in
    let moments = subst (λ r. LeavesOnly mid new (λ i. (i.said ≡ mid.here.said) × (StandsFor (g.K.Keeper.stands r.found i) X.tree ⊎ StandsFor (g.K.Keeper.stands r.found i) (after X p.0.coming).tree))) looks.space
    (c.commit.ensures.any_moment X p.0.coming held.stores p.2.2 is.own is.searches held.settled held.at_rest) in
    commit_leaves stands X f p.0 p.1 h.settled looks.world here c.commit.ensures.told moments

pub returns-in_err-_reply-clause-images : goal.returns-in_err-_reply-clause-images
returns-in_err-_reply-clause-images g c = λ tidy X h own.
    let f = c.args.search.bits in
    let k = c.args.store.now.store.keeper in
    let mid = g.W.Outside.view c.plan_mending.new.w in
    let new = g.W.Outside.view c.commit.new.w in
    let stands = g.K.Keeper.stands (g.K.NodeReader.room k).found in
    let here = stands_here g.K.NodeReader.holds g.K.NodeReader.last g.K.Keeper.rests c.args.store.now (g.W.Outside.view c.args.w.now) stands tidy X (λ N is. g.met.K.Keeper.held_stands k c.args.w.now N is) h in
    let looks = c.in_ok-stale.ensures.looks in
    let held = stays_has g.K.NodeReader.holds g.K.NodeReader.last g.K.Keeper.rests c.args.store.now c.plan_mending.new.store tidy X looks c.in_ok-stale.ensures.known h in
    let p = c.in_ok-stale.ensures.answer tidy X h.stores h.order own in
    let is = mends_so tidy X f h.order own p.0 p.1 in
    let moments = subst (λ r. LeavesOnly mid new (λ i. (i.said ≡ mid.here.said) × (StandsFor (g.K.Keeper.stands r.found i) X.tree ⊎ StandsFor (g.K.Keeper.stands r.found i) (after X p.0.coming).tree))) looks.space
    (c.commit.ensures.any_moment X p.0.coming held.stores p.2.2 is.own is.searches held.settled held.at_rest) in
    commit_leaves stands X f p.0 p.1 h.settled looks.world here c.commit.ensures.told moments

pub returns-in_err-_reply-clause-cause : goal.returns-in_err-_reply-clause-cause
returns-in_err-_reply-clause-cause g c =
    let p = err_from_is_err_and c.from_residual-in_err-_reply.result c.from_residual-in_err-_reply.ensures.1 in
    rw (p.1, p.2) (caused_later _ _ _ _ Fault c.in_ok-stale.ensures.looks.world.counts.disk_faults c.in_err-_reply.ensures.cause)

pub returns-in_err-_reply-clause-mends : goal.returns-in_err-_reply-clause-mends
returns-in_err-_reply-clause-mends g c =
    let p = err_from_is_err_and c.from_residual-in_err-_reply.result c.from_residual-in_err-_reply.ensures.1 in
    rw (p.1, p.2) (λ tidy X h own tells. (tt, tt))

pub returns-in_err-stale-clause-disk : goal.returns-in_err-stale-clause-disk
returns-in_err-stale-clause-disk g c =
    let p = err_from_is_err_and c.from_residual.result c.from_residual.ensures.1 in
    let v = g.W.Outside.view c.args.w.now in
    let mid = g.W.Outside.view c.plan_mending.new.w in
    let looks = c.in_err-stale.ensures.looks in
    rw (p.1, p.2) (λ tidy X h own. unless_fault c.in_err-stale.field-0.0 (λ t. same_medium v mid (looks.world.stays.here t) looks.world.stays.written))

pub returns-clause-disk : goal.returns-clause-disk
returns-clause-disk g c = λ tidy X h own.
    let v = g.W.Outside.view c.args.w.now in
    let mid = g.W.Outside.view c.plan_mending.new.w in
    let new = g.W.Outside.view c.commit.new.w in
    let room = g.K.NodeReader.room c.args.store.now.store.keeper in
    let looks = c.in_ok-stale.ensures.looks in
    let held = stays_has g.K.NodeReader.holds g.K.NodeReader.last g.K.Keeper.rests c.args.store.now c.plan_mending.new.store tidy X looks c.in_ok-stale.ensures.known h in
    let p = c.in_ok-stale.ensures.answer tidy X h.stores h.order own in
    let is = p.2.2 in (
      p.0,
      p.1,
      λ t. commit_makes (g.K.Keeper.fits c.plan_mending.new.store.store.keeper mid) (g.K.Keeper.applied room.pins) g.K.Keeper.cost X.tree p.0.coming _ v mid new
          (looks.world.stays.here (c.commit.ensures.told t)) looks.world.stays.written c.commit.ensures.written is.carries is.changes
          (subst (λ (r : Room). Alters (g.K.Keeper.fits c.plan_mending.new.store.store.keeper mid) (g.K.Keeper.applied r.pins) g.K.Keeper.cost c.in_ok-stale.field-0.tree.change mid.here new.here) looks.space (c.in_ok-_reply.ensures.applied X held.stores held.at_rest t)),
    )

pub returns-in_err-_reply-clause-disk : goal.returns-in_err-_reply-clause-disk
returns-in_err-_reply-clause-disk g c =
    let p = err_from_is_err_and c.from_residual-in_err-_reply.result c.from_residual-in_err-_reply.ensures.1 in
    rw (p.1, p.2) (λ tidy X h own. tt)
