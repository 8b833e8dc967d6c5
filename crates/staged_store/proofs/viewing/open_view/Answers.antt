use Rattle.std.proofs.Common.{inl, inr, refl, subst, sym}
use Rattle.line_server.specs.Spoken.{spoken_text}
use Rattle.pinned_session.specs.mail_reading.Viewed.{listing_of, listing_view}
use Rattle.pinned_session.proofs.mail_reading_laws.ViewLaws.{fine_listing}
use Rattle.session_lines.specs.declared.line.SessionLine.TheVariants.{OpenView}
use Rattle.pinned_session.specs.Showing.{OpensListing}
use Rattle.pinned_session.specs.Viewing.{viewing_of}
use Rattle.pinned_session.specs.store_session.mail_draft.Answers.{Says}
use Rattle.pinned_session.proofs.ViewLaws.{opened_listing}
use Rattle.staged_store.specs.Saying.{Underway}
use Rattle.staged_store.specs.Standing.{IsUnderway}
use Rattle.staged_store.proofs.RespondLaws.{listing_stops, views_answer}
use Rattle.staged_store.proofs.viewing.open_view.Goals as goal

pub returns-in-Ok-clause-responds : goal.returns-in-Ok-clause-responds
returns-in-Ok-clause-responds g c = λ base tidy U held is.
    let room = g.K.NodeReader.room c.args.under.store.store.keeper in
    let done = c.list-under.ensures in
    let now = done.underway base tidy U held is in
    let listed = subst (λ r. Says listing_view (listing_of U.now c.args.folder.bits) r) c.in-Ok.is (done.answer base tidy U held is) in
    let fine = fine_listing U.now is.has.order.whole is.has.order.searches c.args.folder.bits in
    let olds = c.list-under.result.0.views in
    let news = c.add_listed-spoken.new.views in
    let has = λ (Z : Underway). IsUnderway base room (record { store = c.list-under.result.0.store; staging = c.list-under.result.0.staging; views = news }) tidy Z in
    views_answer room U has (OpenView c.args.folder c.args.tag c.args.direction) olds news c.add_listed-spoken.result (λ said V answers. (V, answers, refl)) now.shows (λ V e. record { has = now.has; shows = e })
    (elim c.add_listed-spoken.ensures [
      | inl opens ↦ inl (opened_listing c.args.folder c.args.tag c.args.direction (viewing_of olds) (viewing_of news) (listing_of U.now c.args.folder.bits) c.in-Ok.listing (spoken_text c.add_listed-spoken.result) listed fine opens)
      | inr lacks ↦ inr lacks
    ])

pub returns-in-Err-clause-responds : goal.returns-in-Err-clause-responds
returns-in-Err-clause-responds g c = λ base tidy U held is.
    let room = g.K.NodeReader.room c.args.under.store.store.keeper in
    let done = c.list-under.ensures in
    let now = done.underway base tidy U held is in
    let fine = fine_listing U.now is.has.order.whole is.has.order.searches c.args.folder.bits in
    let has = λ (Z : Underway). IsUnderway base room c.list-under.result.0 tidy Z in
    listing_stops room U has now listing_view (listing_of U.now c.args.folder.bits) (OpenView c.args.folder c.args.tag c.args.direction) c.in-Err.stop c.stopped.result fine c.stopped.ensures
    (subst (λ r. Says listing_view (listing_of U.now c.args.folder.bits) r) c.in-Err.is (done.answer base tidy U held is))
    (λ refusal spoken refuses says. (U.views, subst (λ a. OpensListing a c.args.folder c.args.tag c.args.direction U.views (spoken_text spoken) U.views) (sym refuses) (says, refl), refl))
