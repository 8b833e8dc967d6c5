use Rattle.std.proofs.Common.{◌∙◌, ap}
use Rattle.mail_tree.specs.Changing.{◌>>=◌}
use Rattle.mail_tree.specs.Settling.{mirrored}
use Rattle.mail_draft.proofs.DeskCalls.{both_change, first_exits}
use Rattle.mail_searches.specs.Relisting.{counted_search, with_results}
use Rattle.mail_searches.specs.Searches.{row_ids}
use Rattle.search_results.proofs.CountLaws.{put_list}
use Rattle.search_results.proofs.results.with_results.Goals as goal

pub returns-in_err-put-clause-answer : goal.returns-in_err-put-clause-answer
unfolding with_results
returns-in_err-put-clause-answer g c = first_exits (λ T D. counted_search T c.args.search.bits c.args.table.table.rows D >>= mirrored T c.args.search.bits) (put_list c.args.search.bits c.args.table c.results_table.ensures c.in_err-put.ensures.answer) c.from_residual-in_err-put.ensures.1

pub returns-in_err-counted_search-clause-answer : goal.returns-in_err-counted_search-clause-answer
unfolding with_results
returns-in_err-counted_search-clause-answer g c =
    let t = c.args.table in
    both_change _ (put_list c.args.search.bits t c.results_table.ensures c.in_ok-put.ensures.answer) c.in_ok-put.ensures.drafts
    (first_exits _ (c.in_err-counted_search.ensures.answer t.table.rows (c.as_slice.ensures.value ∙ c.in_ok-ids.ensures ∙ ap (λ x. row_ids x.rows) c.table-2.ensures.table)) c.from_residual-in_err-counted_search.ensures.1)

pub returns-clause-answer : goal.returns-clause-answer
unfolding with_results
returns-clause-answer g c =
    let t = c.args.table in
    both_change _ (put_list c.args.search.bits t c.results_table.ensures c.in_ok-put.ensures.answer) c.in_ok-put.ensures.drafts
    (both_change _ (c.in_ok-counted_search.ensures.answer t.table.rows (c.as_slice.ensures.value ∙ c.in_ok-ids.ensures ∙ ap (λ x. row_ids x.rows) c.table-2.ensures.table)) c.in_ok-counted_search.ensures.drafts
    c.mirror.ensures.answer)
