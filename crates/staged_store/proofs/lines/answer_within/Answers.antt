use Rattle.std.proofs.Common.{Ok, refl}
use Rattle.session_lines.specs.declared.line.SessionLine.TheVariants.{OpenView, ShowView, CloseView, Embedded, Command as StoreCommand}
use Rattle.pinned_session.proofs.store_session_laws.mail_draft_laws.Looking.{untouched_same}
use Rattle.staged_store.specs.Saying.{Underway}
use Rattle.staged_store.specs.Standing.{IsUnderway}
use Rattle.staged_store.proofs.RespondLaws.{line_responds, refuses_any, views_answer}
use Rattle.staged_store.proofs.TellLaws.{keeps_same}
use Rattle.staged_store.proofs.lines.answer_within.Goals as goal

pub returns-in-Command-clause-responds : goal.returns-in-Command-clause-responds
returns-in-Command-clause-responds g c = λ base tidy U held is.
    let room = g.K.NodeReader.room c.args.under.store.store.keeper in
    line_responds room U (λ (Z : Underway). IsUnderway base room c.answer_command.result.0 tidy Z) c.args.asked.now (StoreCommand c.in-Command.command) c.answer_command.result.1 c.in-Command.is (c.answer_command.ensures.responds base tidy U held is)

pub returns-in-Pin-clause-responds : goal.returns-in-Pin-clause-responds
returns-in-Pin-clause-responds g c = λ base tidy U held is.
    let room = g.K.NodeReader.room c.args.under.store.store.keeper in
    refuses_any room U (λ (Z : Underway). IsUnderway base room c.args.under tidy Z) is c.args.asked.now c.refusal_spoken.result c.refusal_spoken.ensures c.in-Pin.is

pub returns-in-Pin-clause-stays : goal.returns-in-Pin-clause-stays
returns-in-Pin-clause-stays g c = λ base tidy U held is. keeps_same _ _ _ _

pub returns-in-Pin-clause-same : goal.returns-in-Pin-clause-same
returns-in-Pin-clause-same g c = untouched_same (g.W.Outside.view c.args.world.now)

pub returns-in-OpenView-clause-responds : goal.returns-in-OpenView-clause-responds
returns-in-OpenView-clause-responds g c = λ base tidy U held is.
    let room = g.K.NodeReader.room c.args.under.store.store.keeper in
    line_responds room U (λ (Z : Underway). IsUnderway base room c.open_view.result.0 tidy Z) c.args.asked.now (OpenView c.in-OpenView.folder c.in-OpenView.tag c.in-OpenView.direction) c.open_view.result.1 c.in-OpenView.is (c.open_view.ensures.responds base tidy U held is)

pub returns-in-ShowView-clause-responds : goal.returns-in-ShowView-clause-responds
returns-in-ShowView-clause-responds g c = λ base tidy U held is.
    let room = g.K.NodeReader.room c.args.under.store.store.keeper in
    line_responds room U (λ (Z : Underway). IsUnderway base room c.show_view.result.0 tidy Z) c.args.asked.now (ShowView c.in-ShowView.view c.in-ShowView.grouped) c.show_view.result.1 c.in-ShowView.is (c.show_view.ensures.responds base tidy U held is)

pub returns-in-CloseView-clause-responds : goal.returns-in-CloseView-clause-responds
returns-in-CloseView-clause-responds g c = λ base tidy U held is.
    let room = g.K.NodeReader.room c.args.under.store.store.keeper in
    let news = c.close_view-spoken.new.views in
    let has = λ (Z : Underway). IsUnderway base room (record { store = c.args.under.store; staging = c.args.under.staging; views = news }) tidy Z in
    line_responds room U has c.args.asked.now (CloseView c.in-CloseView.view) (Ok c.close_view-spoken.result) c.in-CloseView.is
    (views_answer room U has (CloseView c.in-CloseView.view) c.args.under.views news c.close_view-spoken.result (λ said V answers. (V, answers, refl)) is.shows (λ V e. record { has = is.has; shows = e }) c.close_view-spoken.ensures)

pub returns-in-CloseView-clause-stays : goal.returns-in-CloseView-clause-stays
returns-in-CloseView-clause-stays g c = λ base tidy U held is. keeps_same _ _ _ _

pub returns-in-CloseView-clause-same : goal.returns-in-CloseView-clause-same
returns-in-CloseView-clause-same g c = untouched_same (g.W.Outside.view c.args.world.now)

pub returns-in-Embedded-clause-responds : goal.returns-in-Embedded-clause-responds
returns-in-Embedded-clause-responds g c = λ base tidy U held is.
    let room = g.K.NodeReader.room c.args.under.store.store.keeper in
    line_responds room U (λ (Z : Underway). IsUnderway base room c.answer_embedded.result.0 tidy Z) c.args.asked.now (Embedded c.in-Embedded.line) c.answer_embedded.result.1 c.in-Embedded.is (c.answer_embedded.ensures.responds base tidy U held is)
