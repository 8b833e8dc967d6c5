use Rattle.mail_tree.specs.Settling.{table_as_is}
use Rattle.store_session.proofs.mail_draft_laws.DeskCalls.{changes_exit, changes_then}
use Rattle.search_mends.proofs.touching.table_as_is.Goals as goal

pub returns-in_err-table-clause-answer : goal.returns-in_err-table-clause-answer
unfolding table_as_is
returns-in_err-table-clause-answer g c = changes_exit _ c.in_err-table.ensures.answer c.from_residual.ensures.1

pub returns-clause-answer : goal.returns-clause-answer
unfolding table_as_is
returns-clause-answer g c = changes_then _ c.in_ok-table.ensures.answer c.in_ok-table.ensures.reads c.put.ensures.answer
