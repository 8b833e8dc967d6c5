use Rattle.std.proofs.Common.{◌∙◌, Ok, ap, subst}
use Rattle.std.specs.Prelude.{nat_eq}
use Rattle.std.specs.Cmp.Lexicographic.{pointwise}
use Rattle.mapi_values.specs.Tables.{Tab}
use Rattle.store_session.proofs.mail_draft_laws.SettleLaws.{says_at}
use Rattle.store_session.specs.mail_draft.Answers.{Says}
use Rattle.mail_tree.specs.Changing.{nothing, table_at}
use Rattle.mail_searches.specs.Building.{built_rows}
use Rattle.mail_searches.specs.Searches.{Search, results, row_ids}
use Rattle.search_mends.proofs.ListLaws.{right_on, wrong_on}
use Rattle.search_mends.proofs.listing.list_if_wrong.Goals as goal

pub returns-then-same-clause-answer : goal.returns-then-same-clause-answer
returns-then-same-clause-answer g c = record {
  says = λ T s whole.
      right_on T c.args.search.now c.runs.result c.runs.ensures c.if-not-runs.false c.in_ok-node.node c.in_ok-built.built c.in_ok-same.same whole
      (says_at (λ t. t) (λ q. table_at T nothing q) _ _ _ (c.results_table.ensures ∙ ap (λ (x : Search). results x.nid) c.search.view_is) (c.in_ok-node.ensures.answer.says T s))
      (subst (λ (x : Tab). Says {B = Tab} (λ u. u.rows) (built_rows T c.args.search.now x.columns) (Ok c.in_ok-built.built)) c.table.ensures.table (c.in_ok-built.ensures.answer.says T (c.in_ok-node.ensures.reads.shows T s)))
      (c.in_ok-same.ensures ∙ ap (λ (x : Tab). pointwise nat_eq (row_ids x.rows) (row_ids c.in_ok-built.built.rows)) c.table-2.ensures.table) c.if-same.true;
}

pub returns-clause-answer : goal.returns-clause-answer
returns-clause-answer g c = record {
  says = λ T s whole.
      wrong_on T c.args.search.now c.runs.result c.runs.ensures c.if-not-runs.false c.in_ok-node.node c.in_ok-built.built c.in_ok-list.list c.in_ok-same.same whole
      (says_at (λ t. t) (λ q. table_at T nothing q) _ _ _ (c.results_table.ensures ∙ ap (λ (x : Search). results x.nid) c.search.view_is) (c.in_ok-node.ensures.answer.says T s))
      (subst (λ (x : Tab). Says {B = Tab} (λ u. u.rows) (built_rows T c.args.search.now x.columns) (Ok c.in_ok-built.built)) c.table.ensures.table (c.in_ok-built.ensures.answer.says T (c.in_ok-node.ensures.reads.shows T s)))
      (c.in_ok-same.ensures ∙ ap (λ (x : Tab). pointwise nat_eq (row_ids x.rows) (row_ids c.in_ok-built.built.rows)) c.table-2.ensures.table) c.if-same.false c.in_ok-list.ensures;
}
