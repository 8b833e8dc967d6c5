use Rattle.staged_nodes.specs.Staged.{IsOver}
use Rattle.staged_store.proofs.MakeLaws.{leaves, settled_plan, stores_any}
use Rattle.staged_store.proofs.UnderLaws.{underway_made}
use Rattle.staged_store.proofs.staging.make_changes.Goals as goal

pub returns-clause-made : goal.returns-clause-made
returns-clause-made g c = λ base room tidy U d o is e plans space few.
    let s = c.args.under.staging in
    let new = c.fill-change.new.staging in
    let X = U.now in
    let h = is.has in
    let p = c.args.planned in
    let fills = c.fill-change.ensures in
    let knows = c.settle-known.ensures.knows X o (stores_any (IsOver base U.nodes) s.counts.last c.args.under.store.store.known c.args.under.store.searches X h.stores)
    (settled_plan s new X.tree o.outcome p.tree.change c.fill-change.result p.tree.places p.tree.flags.items p.tree.reply fills plans.0) plans.1 plans.2 in
    let left = leaves base room s new X.tree o U.nodes h.stores.tree.shown h.staged h.left h.enough p.tree.change c.fill-change.result fills plans.0.carries plans.0.changes space few in
    (left.0, left.1, underway_made base room tidy U _ d o left.0 _ h.order e left.2 knows.0 knows.1 is.shows c.close_views.ensures)
