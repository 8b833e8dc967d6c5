use Rattle.std.proofs.Common.{refl}
use Rattle.mail_tree.specs.Settling.{context_as_is, table_as_is}
use Rattle.store_session.proofs.mail_draft_laws.DeskCalls.{both_change, changes_at, drafts_then, first_exits}
use Rattle.search_mending.specs.Mending.{search_as_is}
use Rattle.search_mends.proofs.touching.search_as_is.Goals as goal

pub returns-in_err-context_as_is-clause-answer : goal.returns-in_err-context_as_is-clause-answer
unfolding search_as_is
returns-in_err-context_as_is-clause-answer g c =
    first_exits {Y = Unit {0}} {mid = g.D.Desk.view c.args.desk.now} _
    (first_exits {Y = Unit {0}} {mid = g.D.Desk.view c.args.desk.now} _ (first_exits _ c.in_err-context_as_is.ensures.answer refl) refl) c.from_residual.ensures.1

pub returns-in_err-context_as_is-2-clause-answer : goal.returns-in_err-context_as_is-2-clause-answer
unfolding search_as_is
returns-in_err-context_as_is-2-clause-answer g c =
    let first = c.in_ok-context_as_is.ensures in
    first_exits {Y = Unit {0}} {mid = g.D.Desk.view c.args.desk.now} _
    (first_exits _ (both_change _ first.answer first.drafts (changes_at (λ q T. context_as_is T q) c.criteria_node.ensures c.in_err-context_as_is-2.ensures.answer)) refl) c.from_residual-in_err-context_as_is-2.ensures.1

pub returns-in_err-table_as_is-clause-answer : goal.returns-in_err-table_as_is-clause-answer
unfolding search_as_is
returns-in_err-table_as_is-clause-answer g c =
    let first = c.in_ok-context_as_is.ensures in let second = c.in_ok-context_as_is-2.ensures in
    first_exits _
    (both_change _ (both_change _ first.answer first.drafts (changes_at (λ q T. context_as_is T q) c.criteria_node.ensures second.answer)) (drafts_then first.drafts second.drafts)
    (changes_at (λ q T. table_as_is T q) c.results_table.ensures c.in_err-table_as_is.ensures.answer)) c.from_residual-in_err-table_as_is.ensures.1

pub returns-clause-answer : goal.returns-clause-answer
unfolding search_as_is
returns-clause-answer g c =
    let first = c.in_ok-context_as_is.ensures in let second = c.in_ok-context_as_is-2.ensures in let third = c.in_ok-table_as_is.ensures in
    both_change _
    (both_change _ (both_change _ first.answer first.drafts (changes_at (λ q T. context_as_is T q) c.criteria_node.ensures second.answer)) (drafts_then first.drafts second.drafts)
    (changes_at (λ q T. table_as_is T q) c.results_table.ensures third.answer)) (drafts_then (drafts_then first.drafts second.drafts) third.drafts) c.listed_as_is.ensures.answer
