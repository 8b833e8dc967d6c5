use Rattle.std.proofs.Common.{◌∙◌, sym, refl, ap}
use Rattle.mail_tree.specs.Changing.{table_at}
use Rattle.mail_searches.specs.Relisting.{with_results}
use Rattle.mail_searches.specs.Searches.{Search, results}
use Rattle.mail_draft.proofs.DeskCalls.{answers_at, changes_at}
use Rattle.search_results.proofs.RelistLaws.{settles_running, stays_running, stops_running}
use Rattle.search_results.proofs.Steps.{changes_after}
use Rattle.search_results.proofs.settling.settled_running.Goals as goal

pub returns-then-not-followed-clause-answer : goal.returns-then-not-followed-clause-answer
returns-then-not-followed-clause-answer g c = stays_running _ _ _ tt (λ T s. sym (c.in_ok-followed.ensures.concerns T s) ∙ c.if-not-followed.true) c.requires refl

pub returns-in_err-node-clause-answer : goal.returns-in_err-node-clause-answer
returns-in_err-node-clause-answer g c =
    let table = c.results_table.ensures ∙ ap (λ (x : Search). results x.nid) c.search.view_is in
    stops_running _ _ _ _ (λ T s. sym (c.in_ok-followed.ensures.concerns T s) ∙ c.if-not-followed.false) c.requires (answers_at (λ q T D. table_at T D q) table c.in_err-node.ensures.answer) c.from_residual-in_err-node.ensures.1

pub returns-clause-answer : goal.returns-clause-answer
returns-clause-answer g c =
    let table = c.results_table.ensures ∙ ap (λ (x : Search). results x.nid) c.search.view_is in
    let node = answers_at (λ q T D. table_at T D q) table c.in_ok-node.ensures.answer in
    let list = c.in_ok-list.list in
    let listed = changes_after c.in_ok-node.ensures.reads (changes_at (λ q T. with_results T q list.table.rows list) (ap (λ (x : Search). x.nid) c.search.view_is) c.with_results.ensures.answer) in
    record {
      says = λ T s. settles_running T _ c.args.touches.now c.args.search.now _ _ c.with_results.result c.in_ok-node.node list _ c.requires (sym (c.in_ok-followed.ensures.concerns T s) ∙ c.if-not-followed.false) (node.says T s)
          (c.as_slice.ensures.value ∙ c.in_ok-followed.ensures.deltas T s) c.in_ok-list.ensures (listed.says T s);
    }
