use Rattle.std.proofs.Common.{◌∙◌, ap}
use Rattle.mail_tree.specs.Changing.{hierarchy}
use Rattle.mail_tree.specs.Settling.{table_as_is}
use Rattle.store_session.proofs.mail_draft_laws.DeskCalls.{changes_at, changes_exit, changes_then}
use Rattle.search_mending.specs.Mending.{listed_as_is}
use Rattle.search_mends.proofs.touching.listed_as_is.Goals as goal

pub returns-in_err-context-clause-answer : goal.returns-in_err-context-clause-answer
unfolding listed_as_is
returns-in_err-context-clause-answer g c = changes_exit _ c.in_err-context.ensures.answer c.from_residual.ensures.1

pub returns-clause-answer : goal.returns-clause-answer
unfolding listed_as_is
returns-clause-answer g c =
    changes_then _ c.in_ok-context.ensures.answer c.in_ok-context.ensures.reads
    (changes_at (λ q T. table_as_is T q) (c.hierarchy.ensures ∙ ap hierarchy c.parent.ensures) c.table_as_is.ensures.answer)
