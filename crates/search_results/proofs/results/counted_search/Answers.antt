use Rattle.std.proofs.Common.{◌∙◌}
use Rattle.mail_draft.proofs.DeskCalls.{changes_exit, changes_then}
use Rattle.mail_searches.specs.Relisting.{counted_search}
use Rattle.search_results.proofs.CountLaws.{counted_of, counted_put, counts_rows}
use Rattle.search_results.proofs.results.counted_search.Goals as goal

pub returns-in_err-context-clause-answer : goal.returns-in_err-context-clause-answer
unfolding counted_search
returns-in_err-context-clause-answer g c = λ rows same. changes_exit _ c.in_err-context.ensures.answer c.from_residual.ensures.1

pub returns-in_err-count-clause-answer : goal.returns-in_err-count-clause-answer
unfolding counted_search
returns-in_err-count-clause-answer g c = λ rows same.
    changes_then _ c.in_ok-context.ensures.answer c.in_ok-context.ensures.reads
    (counts_rows c.args.search.bits c.in_ok-context.context _ rows same
    (changes_exit (λ T D n. counted_of c.args.search.bits D c.in_ok-context.context n) c.in_err-count.ensures.answer c.from_residual-in_err-count.ensures.1))

pub returns-clause-answer : goal.returns-clause-answer
unfolding counted_search
returns-clause-answer g c = λ rows same.
    changes_then _ c.in_ok-context.ensures.answer c.in_ok-context.ensures.reads
    (counts_rows c.args.search.bits c.in_ok-context.context _ rows same
    (changes_then (λ T D n. counted_of c.args.search.bits D c.in_ok-context.context n) c.in_ok-count.ensures.answer c.in_ok-count.ensures.reads
    (counted_put c.args.search.bits c.in_ok-context.context _ _ (c.in_ok-old_props.ensures ∙ c.props.ensures) c.in_ok-props.ensures c.put_context.ensures.answer)))
