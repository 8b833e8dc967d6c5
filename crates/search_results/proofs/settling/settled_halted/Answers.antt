use Rattle.std.proofs.Common.{◌∙◌, sym, refl, ap}
use Rattle.mail_tree.specs.Changing.{table_at}
use Rattle.mail_searches.specs.Relisting.{takes_row, with_results}
use Rattle.mail_searches.specs.Searches.{Search, results}
use Rattle.mail_draft.proofs.DeskCalls.{answers_at, changes_at}
use Rattle.search_results.proofs.RelistLaws.{keeps_halted, settles_halted, stays_halted, stops_halted}
use Rattle.search_results.proofs.Steps.{changes_after}
use Rattle.search_results.proofs.settling.settled_halted.Goals as goal

pub returns-then-not-some_gone-clause-answer : goal.returns-then-not-some_gone-clause-answer
returns-then-not-some_gone-clause-answer g c = stays_halted _ _ _ tt (sym c.some_gone.ensures ∙ c.if-not-some_gone.true) c.requires refl

pub returns-in_err-node-clause-answer : goal.returns-in_err-node-clause-answer
returns-in_err-node-clause-answer g c =
    let table = c.results_table.ensures ∙ ap (λ (x : Search). results x.nid) c.search.view_is in
    stops_halted _ _ _ _ (sym c.some_gone.ensures ∙ c.if-not-some_gone.false) c.requires (answers_at (λ q T D. table_at T D q) table c.in_err-node.ensures.answer) c.from_residual.ensures.1

pub returns-then-not-takes_row-clause-answer : goal.returns-then-not-takes_row-clause-answer
returns-then-not-takes_row-clause-answer g c =
    let table = c.results_table.ensures ∙ ap (λ (x : Search). results x.nid) c.search.view_is in
    keeps_halted _ _ _ tt c.in_ok-node.node c.requires (sym c.some_gone.ensures ∙ c.if-not-some_gone.false) (answers_at (λ q T D. table_at T D q) table c.in_ok-node.ensures.answer)
    (ap (λ t. takes_row t.rows c.args.touches.now) (sym c.table-2.ensures.table) ∙ sym c.takes_row.ensures ∙ c.if-not-takes_row.true) c.in_ok-node.ensures.reads.changed

pub returns-clause-answer : goal.returns-clause-answer
returns-clause-answer g c =
    let table = c.results_table.ensures ∙ ap (λ (x : Search). results x.nid) c.search.view_is in
    let node = answers_at (λ q T D. table_at T D q) table c.in_ok-node.ensures.answer in
    let list = c.without_gone-list.result in
    let listed = changes_after c.in_ok-node.ensures.reads (changes_at (λ q T. with_results T q list.table.rows list) (ap (λ (x : Search). x.nid) c.search.view_is) c.with_results.ensures.answer) in
    record {
      says = λ T s. settles_halted T _ c.args.touches.now c.args.search.now _ _ c.with_results.result c.in_ok-node.node list c.requires (sym c.some_gone.ensures ∙ c.if-not-some_gone.false) (node.says T s)
          (ap (λ t. takes_row t.rows c.args.touches.now) (sym c.table-2.ensures.table) ∙ sym c.takes_row.ensures ∙ c.if-not-takes_row.false) c.without_gone-list.ensures (listed.says T s);
    }
