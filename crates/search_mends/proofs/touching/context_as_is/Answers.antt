use Rattle.mail_tree.specs.Settling.{context_as_is}
use Rattle.store_session.proofs.mail_draft_laws.DeskCalls.{changes_exit, changes_then}
use Rattle.search_mends.proofs.touching.context_as_is.Goals as goal

pub returns-in_err-context-clause-answer : goal.returns-in_err-context-clause-answer
unfolding context_as_is
returns-in_err-context-clause-answer g c = changes_exit _ c.in_err-context.ensures.answer c.from_residual.ensures.1

pub returns-clause-answer : goal.returns-clause-answer
unfolding context_as_is
returns-clause-answer g c = changes_then _ c.in_ok-context.ensures.answer c.in_ok-context.ensures.reads c.put.ensures.answer
