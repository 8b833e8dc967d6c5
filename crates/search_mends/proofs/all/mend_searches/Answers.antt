use Rattle.std.proofs.Common.{◌≡◌, ◌∙◌, ◌<◌, ℕ, get_or, length, map, true, Ok, Err, arith, ap, refl, subst, sym}
use Rattle.std.proofs.lemmas.Result.{err_from_is_err_and}
use Rattle.pst_base.specs.declared.ids.Nid.{Nid}
use Rattle.search_mends.proofs.OneLaws.{falls_along, stands_here}
use Rattle.search_mends.proofs.PlanLaws.{caused_later}
use Rattle.search_mends.proofs.Reaching.{at_most_one, goes_on, leaves_more, leaves_none, own_at, own_is, own_length, reached_all, reached_none, still_own, stops_first, stops_one}
use Rattle.store_session.specs.Disks.{medium}
use Rattle.mail_searches.specs.Searching.{Searching}
use Rattle.node_port.specs.Pins.{Pins}
use Rattle.search_mends.specs.Mends.{CommitsOne, HasMendable, MendRun}
use Rattle.search_mends.proofs.Runs.{each_ran, one_runs, one_stops, run_ends, run_none}
use Rattle.search_mends.proofs.all.mend_searches.Goals as goal

-- ---- there was no memory for the ids

pub returns-in_err-own-clause-mends : goal.returns-in_err-own-clause-mends
returns-in_err-own-clause-mends g c =
    let p = err_from_is_err_and c.from_residual.result c.from_residual.ensures.1 in
    let v = g.W.Outside.view c.args.w.now in
    let applied = g.K.Keeper.applied (g.K.NodeReader.room c.args.store.now.store.keeper).pins in
    rw (p.1, p.2) (λ tidy X h tells. stops_first _ _ X (h, run_ends applied X X (medium v) v (run_none applied v.tells X (medium v))))

pub returns-in_err-own-clause-images : goal.returns-in_err-own-clause-images
returns-in_err-own-clause-images g c = λ tidy X h tells.
    let k = c.args.store.now.store.keeper in
    let v = g.W.Outside.view c.args.w.now in
    let stands = g.K.Keeper.stands (g.K.NodeReader.room k).found in
    leaves_none stands v X h.settled (stands_here g.K.NodeReader.holds g.K.NodeReader.last g.K.Keeper.rests c.args.store.now v stands tidy X (λ N is. g.met.K.Keeper.held_stands k c.args.w.now N is) h)

-- ---- one after another

pub loop-search-init : goal.loop-search-init
loop-search-init g c =
    let k = c.args.store.now.store.keeper in
    let v = g.W.Outside.view c.args.w.now in
    let stands = g.K.Keeper.stands (g.K.NodeReader.room k).found in
    record {
      reached = λ tidy X h tells. reached_none _ X (h, run_none (g.K.Keeper.applied (g.K.NodeReader.room k).pins) v.tells X (medium v));
      images = λ tidy X h tells. leaves_none stands v X h.settled (stands_here g.K.NodeReader.holds g.K.NodeReader.last g.K.Keeper.rests c.args.store.now v stands tidy X (λ N is. g.met.K.Keeper.held_stands k c.args.w.now N is) h);
      found = refl;
      pins = refl;
      told = λ t. t;
      input = λ t. refl;
      counts = record { in_faults = omega arith; out_faults = omega arith; disk_faults = omega arith };
      few_stale = omega arith;
      few_migrated = omega arith;
    }

pub loop-search-preserved : goal.loop-search-preserved
loop-search-preserved g c =
    let I = c.loop-search.invariant in
    let one = c.mend_one.ensures in
    let n = c.loop-search.search-index in
    let ids = c.deref-search-items.result.now in
    let h = c.loop-search-test.true in
    record {
      reached = λ tidy X has tells.
          let r = I.reached tidy X has (λ disk. one.told (tells disk)) in
          let is = own_is tidy X _ _ ids has.order has.stores.tree.knows.places has.stores.searches.own (ap (map (λ (i : Nid). i.bits)) c.deref-search-items.ensures.value ∙ c.in_ok-own.ensures) in
          let within : n < length X.own = omega (arith, h, own_length X ids is) in
          let at = own_at X ids n _ is h in
          let own = still_own tidy X has.order _ n _ _ _ within at r in
          let room = g.K.NodeReader.room c.mend_one.new.store.store.keeper in
          let mid = g.W.Outside.view c.loop-search.w in
          let new = g.W.Outside.view c.mend_one.new.w in
          let has-new : Searching → Type 0 = HasMendable g.K.NodeReader.holds g.K.NodeReader.last g.K.Keeper.rests c.mend_one.new.store new tidy in
          let f : ℕ = (get_or ids n (record { bits = 0 })).bits in
          let disk = subst (λ (p : Pins). CommitsOne (g.K.Keeper.applied p) mid new r.so_far f (Ok c.in_ok-one.one)) I.pins (c.in_ok-one.ensures.disk tidy r.so_far r.has_it.0 own) in
          let made = one_runs (g.K.Keeper.applied (g.K.NodeReader.room c.args.store.now.store.keeper).pins) has-new room X r.so_far (medium (g.W.Outside.view c.args.w.now)) f mid new c.in_ok-one.one one.told r.has_it.1 disk (c.in_ok-one.ensures.mends tidy r.so_far r.has_it.0 own tells) in
          goes_on tidy X has.order _ _ room n _ _ _ _ _ within at r c.in_ok-one.one made c.with-mended.ensures.stale c.with-mended.ensures.migrated;
      images = λ tidy X has tells.
          let before = λ (disk : g.K.NodeReader.has_disk ≡ true). one.told (tells disk) in
          let r = I.reached tidy X has before in
          let is = own_is tidy X _ _ ids has.order has.stores.tree.knows.places has.stores.searches.own (ap (map (λ (i : Nid). i.bits)) c.deref-search-items.ensures.value ∙ c.in_ok-own.ensures) in
          let within : n < length X.own = omega (arith, h, own_length X ids is) in
          let at = own_at X ids n _ is h in
          leaves_more tidy X has.order n within r.so_far r.mended g.K.Keeper.stands _ _ _ _ _ _ I.found at one.told (I.images tidy X has before)
          (one.images tidy r.so_far r.has_it.0 (still_own tidy X has.order _ n _ _ _ within at r));
      found = one.found ∙ I.found;
      pins = one.pins ∙ I.pins;
      told = λ t. I.told (one.told t);
      input = λ t. one.input t ∙ I.input (one.told t);
      counts = falls_along I.counts one.counts;
      few_stale = omega (arith, I.few_stale, c.with-mended.ensures.stale, at_most_one c.in_ok-one.one.stale);
      few_migrated = omega (arith, I.few_migrated, c.with-mended.ensures.migrated, at_most_one c.in_ok-one.one.first);
    }

-- ---- one stopped

pub returns-in_err-one-clause-mends : goal.returns-in_err-one-clause-mends
returns-in_err-one-clause-mends g c =
    let p = err_from_is_err_and c.from_residual-in_err-one.result c.from_residual-in_err-one.ensures.1 in
    let I = c.loop-search.invariant in
    let one = c.mend_one.ensures in
    let n = c.loop-search.search-index in
    let ids = c.deref-search-items.result.now in
    let h = c.loop-search-test.true in
    rw (p.1, p.2) (λ tidy X has tells.
    let r = I.reached tidy X has (λ disk. one.told (tells disk)) in
    let is = own_is tidy X _ _ ids has.order has.stores.tree.knows.places has.stores.searches.own (ap (map (λ (i : Nid). i.bits)) c.deref-search-items.ensures.value ∙ c.in_ok-own.ensures) in
    let within : n < length X.own = omega (arith, h, own_length X ids is) in
    let at = own_at X ids n _ is h in
    let own = still_own tidy X has.order _ n _ _ _ within at r in
    let stop = c.in_err-one.field-0.0 in
    let mid = g.W.Outside.view c.loop-search.w in
    let new = g.W.Outside.view c.mend_one.new.w in
    let room = g.K.NodeReader.room c.mend_one.new.store.store.keeper in
    let applied = g.K.Keeper.applied (g.K.NodeReader.room c.args.store.now.store.keeper).pins in
    let first = medium (g.W.Outside.view c.args.w.now) in
    let has-new : Searching → Type 0 = HasMendable g.K.NodeReader.holds g.K.NodeReader.last g.K.Keeper.rests c.mend_one.new.store new tidy in
    let f : ℕ = (get_or ids n (record { bits = 0 })).bits in
    let disk = subst (λ (p : Pins). CommitsOne (g.K.Keeper.applied p) mid new r.so_far f (Err stop)) I.pins (c.in_err-one.ensures.disk tidy r.so_far r.has_it.0 own) in
    stops_one _ (λ Z. has-new Z × MendRun applied new.tells X first Z (medium new)) room X n _ _ _ stop within at r
    (one_stops applied has-new room X r.so_far first f mid new stop one.told r.has_it.1 disk (c.in_err-one.ensures.mends tidy r.so_far r.has_it.0 own tells)))

pub returns-in_err-one-clause-images : goal.returns-in_err-one-clause-images
returns-in_err-one-clause-images g c = λ tidy X has tells.
    let I = c.loop-search.invariant in
    let one = c.mend_one.ensures in
    let n = c.loop-search.search-index in
    let ids = c.deref-search-items.result.now in
    let h = c.loop-search-test.true in
    let before = λ (disk : g.K.NodeReader.has_disk ≡ true). one.told (tells disk) in
    let r = I.reached tidy X has before in
    let is = own_is tidy X _ _ ids has.order has.stores.tree.knows.places has.stores.searches.own (ap (map (λ (i : Nid). i.bits)) c.deref-search-items.ensures.value ∙ c.in_ok-own.ensures) in
    let within : n < length X.own = omega (arith, h, own_length X ids is) in
    let at = own_at X ids n _ is h in
    leaves_more tidy X has.order n within r.so_far r.mended g.K.Keeper.stands _ _ _ _ _ _ I.found at one.told (I.images tidy X has before)
    (one.images tidy r.so_far r.has_it.0 (still_own tidy X has.order _ n _ _ _ within at r))

pub returns-in_err-one-clause-found : goal.returns-in_err-one-clause-found
returns-in_err-one-clause-found g c = c.mend_one.ensures.found ∙ c.loop-search.invariant.found

pub returns-in_err-one-clause-pins : goal.returns-in_err-one-clause-pins
returns-in_err-one-clause-pins g c = c.mend_one.ensures.pins ∙ c.loop-search.invariant.pins

pub returns-in_err-one-clause-told : goal.returns-in_err-one-clause-told
returns-in_err-one-clause-told g c = λ t. c.loop-search.invariant.told (c.mend_one.ensures.told t)

pub returns-in_err-one-clause-input : goal.returns-in_err-one-clause-input
returns-in_err-one-clause-input g c = λ t. c.mend_one.ensures.input t ∙ c.loop-search.invariant.input (c.mend_one.ensures.told t)

pub returns-in_err-one-clause-counts : goal.returns-in_err-one-clause-counts
returns-in_err-one-clause-counts g c = falls_along c.loop-search.invariant.counts c.mend_one.ensures.counts

pub returns-in_err-one-clause-cause : goal.returns-in_err-one-clause-cause
returns-in_err-one-clause-cause g c =
    let p = err_from_is_err_and c.from_residual-in_err-one.result c.from_residual-in_err-one.ensures.1 in
    rw (p.1, p.2) (caused_later _ _ _ _ c.in_err-one.field-0.0 c.loop-search.invariant.counts.disk_faults c.in_err-one.ensures.cause)

-- ---- all were mended

pub returns-clause-mends : goal.returns-clause-mends
returns-clause-mends g c = λ tidy X has tells.
    let ids = c.deref-search-items.result.now in
    let is = own_is tidy X _ _ ids has.order has.stores.tree.knows.places has.stores.searches.own (ap (map (λ (i : Nid). i.bits)) c.deref-search-items.ensures.value ∙ c.in_ok-own.ensures) in
    each_ran (g.K.Keeper.applied (g.K.NodeReader.room c.args.store.now.store.keeper).pins) _ X (medium (g.W.Outside.view c.args.w.now)) (g.W.Outside.view c.loop-search.w) c.loop-search.mended
    (reached_all _ X c.loop-search.search-index c.loop-search.mended (omega (arith, c.loop-search-test.false, own_length X ids is)) (c.loop-search.invariant.reached tidy X has tells))
