use Rattle.std.proofs.Common.{◌∙◌, ap, refl, subst, sym}
use Rattle.line_server.specs.Spoken.{spoken_text}
use Rattle.pinned_session.specs.mail_reading.Viewed.{listing_of, listing_view}
use Rattle.pinned_session.proofs.mail_reading_laws.ViewLaws.{fine_listing}
use Rattle.session_lines.specs.declared.line.SessionLine.TheVariants.{ShowView}
use Rattle.pinned_session.specs.Showing.{ShowsListing}
use Rattle.pinned_session.specs.Viewing.{view_at}
use Rattle.pinned_session.specs.store_session.mail_draft.Answers.{Says}
use Rattle.pinned_session.proofs.ViewLaws.{shows_at, shows_none, shows_rows}
use Rattle.pinned_session.proofs.store_session_laws.mail_draft_laws.Looking.{untouched_same}
use Rattle.staged_store.specs.Saying.{Underway}
use Rattle.staged_store.specs.Standing.{IsUnderway}
use Rattle.staged_store.proofs.RespondLaws.{listing_stops, views_answer}
use Rattle.staged_store.proofs.TellLaws.{keeps_same}
use Rattle.staged_store.proofs.viewing.show_view.Goals as goal

pub returns-in_default-clause-responds : goal.returns-in_default-clause-responds
returns-in_default-clause-responds g c = λ base tidy U held is.
    let room = g.K.NodeReader.room c.args.under.store.store.keeper in
    let views = c.args.under.views in
    let has = λ (Z : Underway). IsUnderway base room c.args.under tidy Z in
    views_answer room U has (ShowView c.args.view c.args.grouped) views views c.view_spoken.result (λ said V answers. (V, answers, refl)) is.shows (λ V e. record { has = is.has; shows = e })
    (shows_none c.args.view c.args.grouped U.now views (spoken_text c.view_spoken.result) (sym c.view_at.ensures ∙ c.in_default.is) c.view_spoken.ensures)

pub returns-in_default-clause-stays : goal.returns-in_default-clause-stays
returns-in_default-clause-stays g c = λ base tidy U held is. keeps_same _ _ _ _

pub returns-in_default-clause-same : goal.returns-in_default-clause-same
returns-in_default-clause-same g c = untouched_same (g.W.Outside.view c.args.world.now)

pub returns-in-Ok-clause-responds : goal.returns-in-Ok-clause-responds
returns-in-Ok-clause-responds g c = λ base tidy U held is.
    let room = g.K.NodeReader.room c.args.under.store.store.keeper in
    let done = c.list-under.ensures in
    let now = done.underway base tidy U held is in
    let view = c.in-Some.open in
    let listed = subst (λ r. Says listing_view (listing_of U.now view.folder.bits) r) c.in-Ok.is (done.answer base tidy U held is) in
    let fine = fine_listing U.now is.has.order.whole is.has.order.searches view.folder.bits in
    let views = c.args.under.views in
    let has = λ (Z : Underway). IsUnderway base room c.list-under.result.0 tidy Z in
    views_answer room U has (ShowView c.args.view c.args.grouped) views views c.shown_spoken.result (λ said V answers. (V, answers, refl)) is.shows (λ V e. record { has = now.has; shows = e ∙ sym is.shows ∙ now.shows })
    (shows_rows c.args.view c.args.grouped U.now views view c.in-Ok.listing (spoken_text c.shown_spoken.result) (sym c.view_at.ensures ∙ c.in-Some.is) listed fine c.shown_spoken.ensures)

pub returns-in-Err-clause-responds : goal.returns-in-Err-clause-responds
returns-in-Err-clause-responds g c = λ base tidy U held is.
    let room = g.K.NodeReader.room c.args.under.store.store.keeper in
    let done = c.list-under.ensures in
    let now = done.underway base tidy U held is in
    let view = c.in-Some.open in
    let fine = fine_listing U.now is.has.order.whole is.has.order.searches view.folder.bits in
    let has = λ (Z : Underway). IsUnderway base room c.list-under.result.0 tidy Z in
    listing_stops room U has now listing_view (listing_of U.now view.folder.bits) (ShowView c.args.view c.args.grouped) c.in-Err.stop c.stopped.result fine c.stopped.ensures
    (subst (λ r. Says listing_view (listing_of U.now view.folder.bits) r) c.in-Err.is (done.answer base tidy U held is))
    (λ refusal spoken refuses says. (
      U.views,
      shows_at c.args.view c.args.grouped U.now U.views view (spoken_text spoken) (ap (view_at c.args.view) is.shows ∙ (sym c.view_at.ensures ∙ c.in-Some.is))
          (subst (λ a. ShowsListing c.args.grouped view a (spoken_text spoken)) (sym refuses) says),
      refl,
    ))
