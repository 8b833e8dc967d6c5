use Rattle.std.proofs.Common.{◌≡◌, ap, inl, inr, refl, subst, sym}
use Rattle.store_session.specs.mail_draft.Answers.{Says}
use Rattle.mail_reading.specs.Viewed.{listing_of, listing_view}
use Rattle.line_server.specs.Spoken.{spoken_text}
use Rattle.session_lines.specs.declared.line.SessionLine.TheVariants.{OpenView}
use Rattle.mail_reading.proofs.ViewLaws.{fine_listing}
use Rattle.node_port.specs.Pins.{Pins}
use Rattle.store_session.specs.Disks.{Effects, effects_of}
use Rattle.store_session.proofs.Carry.{quiet_leaves, same_medium}
use Rattle.pinned_session.specs.Sits.{Sits, StandsNow}
use Rattle.pinned_session.specs.Showing.{OpensListing}
use Rattle.pinned_session.specs.Sitting.{Sitting}
use Rattle.pinned_session.specs.Viewing.{Viewing, viewing_of}
use Rattle.pinned_session.proofs.MakeLaws.{sitting_shows}
use Rattle.pinned_session.proofs.PinnedKeeps.{sits_stands}
use Rattle.pinned_session.proofs.ViewLaws.{answers_view, listing_stops, opened_listing}
use Rattle.pinned_session.proofs.viewing.open_view.Goals as goal

pub returns-in-Ok-clause-carries : goal.returns-in-Ok-clause-carries
returns-in-Ok-clause-carries g c = λ found tidy S h tells.
    let v = g.W.Outside.view c.args.world.now in
    let effects : Pins → Effects = λ pins. effects_of pins g.K.Keeper.measures g.K.Keeper.applied g.K.Saver.saved in
    let room = g.K.NodeReader.room c.args.pinned.store.store.keeper in
    let stands = StandsNow g.K.Keeper.stands found tidy in
    let here = sits_stands g.W.Outside.view g.K.NodeReader.holds g.K.NodeReader.last g.K.NodeReader.pinned g.K.NodeReader.room g.K.NodeReader.has_disk g.K.Keeper.stands g.K.Keeper.rests effects g.met.K.Keeper.held_stands found tidy c.args.pinned c.args.world.now S h in
    let w = g.W.Outside.view c.list_keeping-store.new.world in
    let done = c.list_keeping-store.ensures in
    let stays = done.stays tidy S.now h.store in
    let says = done.answer tidy S.now h.store in
    let has = λ (Z : Sitting). Sits g.W.Outside.view g.K.NodeReader.holds g.K.NodeReader.last g.K.NodeReader.pinned g.K.NodeReader.room g.K.Keeper.rests (record { store = c.list_keeping-store.result.0; given = c.args.pinned.given; pins = c.args.pinned.pins; views = c.add_listed-spoken.new.views }) c.list_keeping-store.new.world found tidy Z in
    let disk = λ (t : w.tells). same_medium v w (done.same.stays.here t) done.same.stays.written in
    let fine = fine_listing S.now h.store.order.whole h.store.order.searches c.args.folder.bits in
    let listed = subst (λ r. Says listing_view (listing_of S.now c.args.folder.bits) r) c.in-Ok.is says in
    answers_view effects room S v w disk has stands (OpenView c.args.folder c.args.tag c.args.direction) c.args.pinned.views c.add_listed-spoken.new.views h.shows
    (λ V is. sitting_shows S h (λ store. stays.0) stays.1 (ap (λ r. r.pins) done.room) (ap (λ r. r.found) done.room) V is) (λ Z. quiet_leaves stands S Z h.store.settled done.same here) (λ said V is. inl (V, is, refl, disk)) c.add_listed-spoken.result
    (elim c.add_listed-spoken.ensures [
      | inl is ↦ inl (opened_listing c.args.folder c.args.tag c.args.direction (viewing_of c.args.pinned.views) (viewing_of c.add_listed-spoken.new.views) (listing_of S.now c.args.folder.bits) c.in-Ok.listing (spoken_text c.add_listed-spoken.result) listed fine is)
      | inr is ↦ inr is
    ])

pub returns-in-Err-clause-carries : goal.returns-in-Err-clause-carries
returns-in-Err-clause-carries g c = λ found tidy S h tells.
    let v = g.W.Outside.view c.args.world.now in
    let effects : Pins → Effects = λ pins. effects_of pins g.K.Keeper.measures g.K.Keeper.applied g.K.Saver.saved in
    let room = g.K.NodeReader.room c.args.pinned.store.store.keeper in
    let stands = StandsNow g.K.Keeper.stands found tidy in
    let here = sits_stands g.W.Outside.view g.K.NodeReader.holds g.K.NodeReader.last g.K.NodeReader.pinned g.K.NodeReader.room g.K.NodeReader.has_disk g.K.Keeper.stands g.K.Keeper.rests effects g.met.K.Keeper.held_stands found tidy c.args.pinned c.args.world.now S h in
    let w = g.W.Outside.view c.list_keeping-store.new.world in
    let done = c.list_keeping-store.ensures in
    let stays = done.stays tidy S.now h.store in
    let says = done.answer tidy S.now h.store in
    let has = λ (Z : Sitting). Sits g.W.Outside.view g.K.NodeReader.holds g.K.NodeReader.last g.K.NodeReader.pinned g.K.NodeReader.room g.K.Keeper.rests (record { store = c.list_keeping-store.result.0; given = c.args.pinned.given; pins = c.args.pinned.pins; views = c.args.pinned.views }) c.list_keeping-store.new.world found tidy Z in
    let disk = λ (t : w.tells). same_medium v w (done.same.stays.here t) done.same.stays.written in
    let fine = fine_listing S.now h.store.order.whole h.store.order.searches c.args.folder.bits in
    let on = λ (V : Viewing) (is : V ≡ viewing_of c.args.pinned.views). sitting_shows S h (λ store. stays.0) stays.1 (ap (λ r. r.pins) done.room) (ap (λ r. r.found) done.room) V is in
    let leaves = λ (Z : Sitting). quiet_leaves stands S Z h.store.settled done.same here in
    listing_stops effects room S v w disk has stands (OpenView c.args.folder c.args.tag c.args.direction) (on S.views h.shows) (leaves S) (listing_of S.now c.args.folder.bits) fine c.in-Err.stop c.stopped.result c.stopped.ensures
    (subst (λ r. Says listing_view (listing_of S.now c.args.folder.bits) r) c.in-Err.is says)
    (λ refusal spoken refuses is. answers_view effects room S v w disk has stands (OpenView c.args.folder c.args.tag c.args.direction) c.args.pinned.views c.args.pinned.views h.shows on leaves (λ said V is. inl (V, is, refl, disk)) spoken
    (inl (subst (λ a. OpensListing a c.args.folder c.args.tag c.args.direction (viewing_of c.args.pinned.views) (spoken_text spoken) (viewing_of c.args.pinned.views)) (sym refuses) (is, refl))))
