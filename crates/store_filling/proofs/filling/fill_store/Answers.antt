use Rattle.std.proofs.Common.{◌≡◌, ◌∙◌, Result, Ok, Err, ap, refl, subst, sym}
use Rattle.mail_reading.specs.mail_draft.declared.stop.Stop.{Stop}
use Rattle.node_port.specs.Nodes.{Nodes}
use Rattle.node_port.specs.Stops.{Room}
use Rattle.store_session.specs.Carrying.{Has, StandsOrdered}
use Rattle.store_session.specs.Disks.{effects_of, medium}
use Rattle.store_session.proofs.Carry.{stands_here}
use Rattle.mail_searches.specs.Searching.{Searching}
use Rattle.store_filling.specs.Doing.{AllEnd}
use Rattle.store_filling.specs.Filling.{tree_at}
use Rattle.store_filling.specs.declared.commands.Made.{Made}
use Rattle.store_filling.proofs.Commits.{caused_later, looks_leave, quiet_along, quiet_looks, seen_so}
use Rattle.store_filling.proofs.CountLaws.{has_on}
use Rattle.store_filling.proofs.Ending.{ends_counted, ends_stopped, ends_unplaced, places_are}
use Rattle.store_filling.proofs.filling.fill_store.Goals as goal

pub returns-in-Err-clause-ends : goal.returns-in-Err-clause-ends
returns-in-Err-clause-ends g c = λ tidy X h tells.
    let k = c.args.store.now.store.keeper in
    let v = g.W.Outside.view c.args.w.now in
    let mid = g.W.Outside.view c.fill_places.new.w in
    let room = g.K.NodeReader.room k in
    let effects = effects_of room.pins g.K.Keeper.measures g.K.Keeper.applied g.K.Saver.saved in
    let S = g.K.Keeper.stands room.found in
    let looks = c.fill_places.ensures.looks in
    let here = stands_here S tidy X (λ N is. g.met.K.Keeper.held_stands k c.args.w.now N is) h in
    let held = has_on g.K.Keeper.rests c.args.store.now.store.known c.args.store.now.searches tidy X looks h in
    let stood : (N : Nodes) → g.K.NodeReader.holds c.fill_places.new.keeper mid N → S mid.here N (g.K.NodeReader.last c.fill_places.new.keeper) = λ N is. subst (λ (r : Room). g.K.Keeper.stands r.found mid.here N (g.K.NodeReader.last c.fill_places.new.keeper)) looks.space (g.met.K.Keeper.held_stands c.fill_places.new.keeper c.fill_places.new.w N is) in (
      medium mid,
      record { image = looks.world.stays.here; written = looks.world.stays.written },
      ends_unplaced effects (StandsOrdered tidy S) g.K.Keeper.rests (Has (g.K.NodeReader.holds c.fill_places.new.keeper mid) (g.K.NodeReader.last c.fill_places.new.keeper) c.args.store.now.store.known c.args.store.now.searches g.K.Keeper.rests mid tidy) v X c.args.seed c.args.count mid c.in-Err.stop h.order.whole (c.in-Err.ensures.answer X.tree h.stores.tree.shown h.stores.tree.knows) h.settled looks.world here (seen_so S tidy stood) held,
    )

pub returns-in-Err-do_all-clause-ends : goal.returns-in-Err-do_all-clause-ends
returns-in-Err-do_all-clause-ends g c = λ tidy X h tells.
    let k = c.args.store.now.store.keeper in
    let v = g.W.Outside.view c.args.w.now in
    let mid = g.W.Outside.view c.fill_places.new.w in
    let now = g.W.Outside.view c.do_all.new.w in
    let last = c.do_all.new.store.store.keeper in
    let room = g.K.NodeReader.room k in
    let S = g.K.Keeper.stands room.found in
    let looks = c.fill_places.ensures.looks in
    let here = stands_here S tidy X (λ N is. g.met.K.Keeper.held_stands k c.args.w.now N is) h in
    let held = has_on g.K.Keeper.rests c.args.store.now.store.known c.args.store.now.searches tidy X looks h in
    let found = c.do_all.ensures.found ∙ ap (λ (r : Room). r.found) looks.space in
    let stood : (N : Nodes) → g.K.NodeReader.holds last now N → S now.here N (g.K.NodeReader.last last) = λ N is. subst (λ f. g.K.Keeper.stands f now.here N (g.K.NodeReader.last last)) found (g.met.K.Keeper.held_stands last c.do_all.new.w N is) in
    let has : Searching → Type 0 = Has (g.K.NodeReader.holds last now) (g.K.NodeReader.last last) c.do_all.new.store.store.known c.do_all.new.store.searches g.K.Keeper.rests now tidy in
    let said = subst (λ (r : Room). AllEnd (effects_of r.pins g.K.Keeper.measures g.K.Keeper.applied g.K.Saver.saved) (StandsOrdered tidy (g.K.Keeper.stands r.found)) has c.in-Ok.places c.args.seed c.args.count X mid now (Err c.in-Err-do_all.stop)) looks.space
    (c.in-Err-do_all.ensures.ends tidy X held tells) in (
      medium mid,
      record { image = λ t. looks.world.stays.here (c.do_all.ensures.quiet.told t); written = looks.world.stays.written },
      ends_stopped (effects_of room.pins g.K.Keeper.measures g.K.Keeper.applied g.K.Saver.saved) (StandsOrdered tidy S) g.K.Keeper.rests has v X c.args.seed c.args.count c.in-Ok.places (places_are X.tree c.in-Ok.places h.order.whole (c.in-Ok.ensures.answer X.tree h.stores.tree.shown h.stores.tree.knows)) mid
          (looks_leave (StandsOrdered tidy S) X h.settled looks.world here) now c.in-Err-do_all.stop c.do_all.ensures.quiet.told said (seen_so S tidy stood),
    )

pub returns-clause-ends : goal.returns-clause-ends
returns-clause-ends g c = λ tidy X h tells.
    let k = c.args.store.now.store.keeper in
    let v = g.W.Outside.view c.args.w.now in
    let mid = g.W.Outside.view c.fill_places.new.w in
    let done = g.W.Outside.view c.do_all.new.w in
    let now = g.W.Outside.view c.count_filled.new.w in
    let after = c.do_all.new.store in
    let room = g.K.NodeReader.room k in
    let S = g.K.Keeper.stands room.found in
    let looks = c.fill_places.ensures.looks in
    let counts = c.count_filled.ensures.looks in
    let here = stands_here S tidy X (λ N is. g.met.K.Keeper.held_stands k c.args.w.now N is) h in
    let held = has_on g.K.Keeper.rests c.args.store.now.store.known c.args.store.now.searches tidy X looks h in
    let found = c.do_all.ensures.found ∙ ap (λ (r : Room). r.found) looks.space in
    let stood : (N : Nodes) → g.K.NodeReader.holds after.store.keeper done N → S done.here N (g.K.NodeReader.last after.store.keeper) = λ N is. subst (λ f. g.K.Keeper.stands f done.here N (g.K.NodeReader.last after.store.keeper)) found (g.met.K.Keeper.held_stands after.store.keeper c.do_all.new.w N is) in
    let found-now = ap (λ (r : Room). r.found) counts.space ∙ found in
    let stood-now : (N : Nodes) → g.K.NodeReader.holds c.count_filled.new.keeper now N → S now.here N (g.K.NodeReader.last c.count_filled.new.keeper) = λ N is. subst (λ f. g.K.Keeper.stands f now.here N (g.K.NodeReader.last c.count_filled.new.keeper)) found-now (g.met.K.Keeper.held_stands c.count_filled.new.keeper c.count_filled.new.w N is) in
    let of_done : Searching → Type 0 = Has (g.K.NodeReader.holds after.store.keeper done) (g.K.NodeReader.last after.store.keeper) after.store.known after.searches g.K.Keeper.rests done tidy in
    let f = subst (λ (r : Room). AllEnd (effects_of r.pins g.K.Keeper.measures g.K.Keeper.applied g.K.Saver.saved) (StandsOrdered tidy (g.K.Keeper.stands r.found)) of_done c.in-Ok.places c.args.seed c.args.count X mid done (Ok c.in-Ok-do_all.made)) looks.space
    (c.in-Ok-do_all.ensures.ends tidy X held (λ disk. counts.world.stays.told (tells disk))) in
    let Y = tree_at X f.turns in
    let has = f.has_it in
    let later = has_on g.K.Keeper.rests after.store.known after.searches tidy Y counts has in (
      medium mid,
      record { image = λ t. looks.world.stays.here (c.do_all.ensures.quiet.told (counts.world.stays.told t)); written = looks.world.stays.written },
      ends_counted (effects_of room.pins g.K.Keeper.measures g.K.Keeper.applied g.K.Saver.saved) (StandsOrdered tidy S) g.K.Keeper.rests of_done v X c.args.seed c.args.count c.in-Ok.places (places_are X.tree c.in-Ok.places h.order.whole (c.in-Ok.ensures.answer X.tree h.stores.tree.shown h.stores.tree.knows)) mid
          (looks_leave (StandsOrdered tidy S) X h.settled looks.world here) done now c.in-Ok-do_all.made c.count_filled.result f c.do_all.ensures.quiet.told counts.world has.settled (stands_here S tidy Y stood has)
          (c.count_filled.ensures.answer tidy Y has.stores has.order) (seen_so S tidy stood-now Y later),
    )

pub returns-in-Err-clause-quiet : goal.returns-in-Err-clause-quiet
returns-in-Err-clause-quiet g c = quiet_looks c.fill_places.ensures.looks.world

pub returns-in-Err-do_all-clause-quiet : goal.returns-in-Err-do_all-clause-quiet
returns-in-Err-do_all-clause-quiet g c = quiet_along (quiet_looks c.fill_places.ensures.looks.world) c.do_all.ensures.quiet

pub returns-clause-quiet : goal.returns-clause-quiet
returns-clause-quiet g c = quiet_along (quiet_along (quiet_looks c.fill_places.ensures.looks.world) c.do_all.ensures.quiet) (quiet_looks c.count_filled.ensures.looks.world)
