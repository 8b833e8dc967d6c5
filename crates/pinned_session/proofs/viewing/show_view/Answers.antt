use Rattle.std.proofs.Common.{◌≡◌, ◌∙◌, ap, inl, refl, subst, sym}
use Rattle.store_session.proofs.mail_draft_laws.Looking.{untouched_same}
use Rattle.store_session.specs.mail_draft.Answers.{Says}
use Rattle.mail_reading.specs.Viewed.{listing_of, listing_view}
use Rattle.line_server.specs.Spoken.{spoken_text}
use Rattle.session_lines.specs.declared.line.SessionLine.TheVariants.{ShowView}
use Rattle.mail_reading.proofs.ViewLaws.{fine_listing}
use Rattle.node_port.specs.Pins.{Pins}
use Rattle.store_session.specs.Disks.{Effects, effects_of}
use Rattle.store_session.proofs.Carry.{its_medium, quiet_leaves, same_medium}
use Rattle.pinned_session.specs.Sits.{Sits, StandsNow}
use Rattle.pinned_session.specs.Showing.{ShowsListing}
use Rattle.pinned_session.specs.Sitting.{Sitting}
use Rattle.pinned_session.specs.Viewing.{Viewing, viewing_of}
use Rattle.pinned_session.proofs.MakeLaws.{sitting_shows}
use Rattle.pinned_session.proofs.PinnedKeeps.{sits_stands}
use Rattle.pinned_session.proofs.ViewLaws.{answers_view, listing_stops, shows_at, shows_none, shows_rows}
use Rattle.pinned_session.proofs.viewing.show_view.Goals as goal

pub returns-in_default-clause-carries : goal.returns-in_default-clause-carries
returns-in_default-clause-carries g c = λ found tidy S h tells.
    let v = g.W.Outside.view c.args.world.now in
    let effects : Pins → Effects = λ pins. effects_of pins g.K.Keeper.measures g.K.Keeper.applied g.K.Saver.saved in
    let room = g.K.NodeReader.room c.args.pinned.store.store.keeper in
    let stands = StandsNow g.K.Keeper.stands found tidy in
    let here = sits_stands g.W.Outside.view g.K.NodeReader.holds g.K.NodeReader.last g.K.NodeReader.pinned g.K.NodeReader.room g.K.NodeReader.has_disk g.K.Keeper.stands g.K.Keeper.rests effects g.met.K.Keeper.held_stands found tidy c.args.pinned c.args.world.now S h in
    answers_view effects room S v v (λ t. its_medium v) (λ (Z : Sitting). Sits g.W.Outside.view g.K.NodeReader.holds g.K.NodeReader.last g.K.NodeReader.pinned g.K.NodeReader.room g.K.Keeper.rests c.args.pinned c.args.world.now found tidy Z) stands (ShowView c.args.view c.args.grouped) c.args.pinned.views c.args.pinned.views h.shows
    (λ V is. sitting_shows S h (λ store. store) (λ q N told. told) refl refl V is) (λ Z. quiet_leaves stands S Z h.store.settled (untouched_same v) here) (λ said V is. inl (V, is, refl, λ t. its_medium v)) c.view_spoken.result
    (shows_none c.args.view c.args.grouped S.now c.args.pinned.views (spoken_text c.view_spoken.result) (sym c.view_at.ensures ∙ c.in_default.is) c.view_spoken.ensures)

pub returns-in-Ok-clause-carries : goal.returns-in-Ok-clause-carries
returns-in-Ok-clause-carries g c = λ found tidy S h tells.
    let v = g.W.Outside.view c.args.world.now in
    let effects : Pins → Effects = λ pins. effects_of pins g.K.Keeper.measures g.K.Keeper.applied g.K.Saver.saved in
    let room = g.K.NodeReader.room c.args.pinned.store.store.keeper in
    let stands = StandsNow g.K.Keeper.stands found tidy in
    let here = sits_stands g.W.Outside.view g.K.NodeReader.holds g.K.NodeReader.last g.K.NodeReader.pinned g.K.NodeReader.room g.K.NodeReader.has_disk g.K.Keeper.stands g.K.Keeper.rests effects g.met.K.Keeper.held_stands found tidy c.args.pinned c.args.world.now S h in
    let w = g.W.Outside.view c.list_keeping-store.new.world in
    let done = c.list_keeping-store.ensures in
    let stays = done.stays tidy S.now h.store in
    let says = done.answer tidy S.now h.store in
    let has = λ (Z : Sitting). Sits g.W.Outside.view g.K.NodeReader.holds g.K.NodeReader.last g.K.NodeReader.pinned g.K.NodeReader.room g.K.Keeper.rests (record { store = c.list_keeping-store.result.0; given = c.args.pinned.given; pins = c.args.pinned.pins; views = c.args.pinned.views }) c.list_keeping-store.new.world found tidy Z in
    let disk = λ (t : w.tells). same_medium v w (done.same.stays.here t) done.same.stays.written in
    let fine = fine_listing S.now h.store.order.whole h.store.order.searches c.in-Some.open.folder.bits in
    let listed = subst (λ r. Says listing_view (listing_of S.now c.in-Some.open.folder.bits) r) c.in-Ok.is says in
    answers_view effects room S v w disk has stands (ShowView c.args.view c.args.grouped) c.args.pinned.views c.args.pinned.views h.shows
    (λ V is. sitting_shows S h (λ store. stays.0) stays.1 (ap (λ r. r.pins) done.room) (ap (λ r. r.found) done.room) V is) (λ Z. quiet_leaves stands S Z h.store.settled done.same here) (λ said V is. inl (V, is, refl, disk)) c.shown_spoken.result
    (shows_rows c.args.view c.args.grouped S.now c.args.pinned.views c.in-Some.open c.in-Ok.listing (spoken_text c.shown_spoken.result) (sym c.view_at.ensures ∙ c.in-Some.is) listed fine c.shown_spoken.ensures)

pub returns-in-Err-clause-carries : goal.returns-in-Err-clause-carries
returns-in-Err-clause-carries g c = λ found tidy S h tells.
    let v = g.W.Outside.view c.args.world.now in
    let effects : Pins → Effects = λ pins. effects_of pins g.K.Keeper.measures g.K.Keeper.applied g.K.Saver.saved in
    let room = g.K.NodeReader.room c.args.pinned.store.store.keeper in
    let stands = StandsNow g.K.Keeper.stands found tidy in
    let here = sits_stands g.W.Outside.view g.K.NodeReader.holds g.K.NodeReader.last g.K.NodeReader.pinned g.K.NodeReader.room g.K.NodeReader.has_disk g.K.Keeper.stands g.K.Keeper.rests effects g.met.K.Keeper.held_stands found tidy c.args.pinned c.args.world.now S h in
    let w = g.W.Outside.view c.list_keeping-store.new.world in
    let done = c.list_keeping-store.ensures in
    let stays = done.stays tidy S.now h.store in
    let says = done.answer tidy S.now h.store in
    let has = λ (Z : Sitting). Sits g.W.Outside.view g.K.NodeReader.holds g.K.NodeReader.last g.K.NodeReader.pinned g.K.NodeReader.room g.K.Keeper.rests (record { store = c.list_keeping-store.result.0; given = c.args.pinned.given; pins = c.args.pinned.pins; views = c.args.pinned.views }) c.list_keeping-store.new.world found tidy Z in
    let disk = λ (t : w.tells). same_medium v w (done.same.stays.here t) done.same.stays.written in
    let fine = fine_listing S.now h.store.order.whole h.store.order.searches c.in-Some.open.folder.bits in
    let on = λ (V : Viewing) (is : V ≡ viewing_of c.args.pinned.views). sitting_shows S h (λ store. stays.0) stays.1 (ap (λ r. r.pins) done.room) (ap (λ r. r.found) done.room) V is in
    let leaves = λ (Z : Sitting). quiet_leaves stands S Z h.store.settled done.same here in
    listing_stops effects room S v w disk has stands (ShowView c.args.view c.args.grouped) (on S.views h.shows) (leaves S) (listing_of S.now c.in-Some.open.folder.bits) fine c.in-Err.stop c.stopped.result c.stopped.ensures
    (subst (λ r. Says listing_view (listing_of S.now c.in-Some.open.folder.bits) r) c.in-Err.is says)
    (λ refusal spoken refuses is. answers_view effects room S v w disk has stands (ShowView c.args.view c.args.grouped) c.args.pinned.views c.args.pinned.views h.shows on leaves (λ said V is. inl (V, is, refl, disk)) spoken
    (inl (shows_at c.args.view c.args.grouped S.now (viewing_of c.args.pinned.views) c.in-Some.open (spoken_text spoken) (sym c.view_at.ensures ∙ c.in-Some.is)
    (subst (λ a. ShowsListing c.args.grouped c.in-Some.open a (spoken_text spoken)) (sym refuses) is))))
