use Rattle.std.proofs.Common.{refl}
use Rattle.mail_tree.specs.Settling.{table_as_is, touched}
use Rattle.mail_draft.proofs.DeskCalls.{both_change, changes_at, drafts_then, first_exits}
use Rattle.mail_draft.proofs.on_desk.touch.touched.Goals as goal

pub returns-in_err-context_as_is-clause-answer : goal.returns-in_err-context_as_is-clause-answer
unfolding touched
returns-in_err-context_as_is-clause-answer g c = first_exits {Y = Unit {0}} {mid = g.D.Desk.view c.args.desk.now} _ (first_exits _ c.in_err-context_as_is.ensures.answer refl) c.from_residual.ensures.1

pub returns-in_err-table_as_is-clause-answer : goal.returns-in_err-table_as_is-clause-answer
unfolding touched
returns-in_err-table_as_is-clause-answer g c =
    first_exits _ (both_change _ c.in_ok-context_as_is.ensures.answer c.in_ok-context_as_is.ensures.drafts (changes_at (λ q T. table_as_is T q) c.contents.ensures c.in_err-table_as_is.ensures.answer)) c.from_residual-in_err-table_as_is.ensures.1

pub returns-clause-answer : goal.returns-clause-answer
unfolding touched
returns-clause-answer g c =
    both_change _ (both_change _ c.in_ok-context_as_is.ensures.answer c.in_ok-context_as_is.ensures.drafts (changes_at (λ q T. table_as_is T q) c.contents.ensures c.in_ok-table_as_is.ensures.answer))
    (drafts_then c.in_ok-context_as_is.ensures.drafts c.in_ok-table_as_is.ensures.drafts) c.above_as_is.ensures.answer
