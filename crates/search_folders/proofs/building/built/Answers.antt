use Rattle.std.proofs.Common.{[], ap, ◌∙◌, refl}
use Rattle.mapi_values.specs.Tables.{Tab}
use Rattle.mail_draft.proofs.DeskCalls.{reads_then}
use Rattle.mail_searches.specs.Searches.{Search}
use Rattle.search_folders.proofs.Built.{built_on}
use Rattle.search_folders.proofs.building.built.Goals as goal

pub returns-clause-answer : goal.returns-clause-answer
returns-clause-answer g c =
    let none = c.without_rows-table.ensures ∙ ap (λ (t : Tab). record t { rows = [] }) c.into_table.ensures.table in
    let L = reads_then c.in_ok-node.ensures.reads c.in_ok-find_below.ensures.reads in
    record {
      says = λ T s.
          built_on _ T c.args.search.now _ T.places _ (g.D.Desk.view c.args.desk.now).changed _ _ _ _ _ (ap (λ (x : Search). x.nid) c.search.view_is) refl c.results_table.ensures (c.in_ok-node.ensures.answer.says T s) none
          (c.in_ok-find_below.ensures.answer.says T (c.in_ok-node.ensures.reads.shows T s)) c.in_ok-find_below.ensures.same
          (c.new.ensures.parent ∙ c.parent-parent.ensures) c.new.ensures.table (rw L.changed at (c.with_results.ensures.answer.says T (L.shows T s)));
    }
