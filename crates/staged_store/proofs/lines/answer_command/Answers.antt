use Rattle.std.proofs.Common.{◌∙◌, sym}
use Rattle.pinned_session.proofs.store_session_laws.mail_draft_laws.Looking.{untouched_same}
use Rattle.staged_store.specs.Saying.{Underway}
use Rattle.staged_store.specs.Standing.{IsUnderway}
use Rattle.staged_store.proofs.RespondLaws.{command_responds, refuses_save}
use Rattle.staged_store.proofs.TellLaws.{keeps_same}
use Rattle.staged_store.proofs.lines.answer_command.Goals as goal

pub returns-then-is_save-clause-responds : goal.returns-then-is_save-clause-responds
returns-then-is_save-clause-responds g c = λ base tidy U held is.
    let room = g.K.NodeReader.room c.args.under.store.store.keeper in
    refuses_save room U (λ (Z : Underway). IsUnderway base room c.args.under tidy Z) is c.args.command.now c.refusal_spoken.result (sym c.is_save.ensures ∙ c.if-is_save.true) c.refusal_spoken.ensures

pub returns-then-is_save-clause-stays : goal.returns-then-is_save-clause-stays
returns-then-is_save-clause-stays g c = λ base tidy U held is. keeps_same _ _ _ _

pub returns-then-is_save-clause-same : goal.returns-then-is_save-clause-same
returns-then-is_save-clause-same g c = untouched_same (g.W.Outside.view c.args.world.now)

pub returns-clause-responds : goal.returns-clause-responds
returns-clause-responds g c = λ base tidy U held is.
    let room = g.K.NodeReader.room c.args.under.store.store.keeper in
    command_responds room U (λ (Z : Underway). IsUnderway base room c.stage.result.0 tidy Z) c.args.command.now c.stage.result.1 (sym c.is_save.ensures ∙ c.if-is_save.false) (c.stage.ensures.stages base tidy U held is)
