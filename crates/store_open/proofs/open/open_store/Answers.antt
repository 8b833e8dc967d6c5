use Rattle.std.proofs.Common.{Err, subst}
use Rattle.list_check.specs.Checking.{Checks, TellsStale}
use Rattle.store_open.specs.Opening.{StopsTree}
use Rattle.store_open.specs.Stops.{of_check}
use Rattle.store_open.proofs.Opened.{check_stops, knows, look_stops, passed_on, stale_stops, told}
use Rattle.store_open.proofs.open.open_store.Goals as goal

pub returns-in_err-tree-clause-stops : goal.returns-in_err-tree-clause-stops
returns-in_err-tree-clause-stops g c = λ N held.
    let stop = c.in_err-tree.field-0.0 in
    passed_on (StopsTree N) stop c.from_residual.result c.from_residual.ensures.1 (look_stops N stop (c.in_err-tree.ensures.stops N held))

pub returns-in_err-stale-clause-stops : goal.returns-in_err-stale-clause-stops
returns-in_err-stale-clause-stops g c = λ N held.
    let stop = c.in_err-stale.field-0.0 in
    let k = c.in_ok-tree.ensures.found N held in
    passed_on (StopsTree N) (of_check stop) c.from_residual-in_err-stale.result c.from_residual-in_err-stale.ensures.1
    (check_stops N stop (told N (g.K.NodeReader.last c.args.keeper.now) c.in_ok-tree.tree k (λ Y. Checks Y (Err stop)) c.look_store.ensures.looks.counters (c.look_store.ensures.looks.stays N held) c.in_err-stale.ensures.answer))

pub returns-in-Some-clause-stops : goal.returns-in-Some-clause-stops
returns-in-Some-clause-stops g c = λ N held.
    let last = g.K.NodeReader.last c.args.keeper.now in
    let k = c.in_ok-tree.ensures.found N held in
    let answer = told N last c.in_ok-tree.tree k (λ Y. TellsStale Y c.in_ok-stale.stale) c.look_store.ensures.looks.counters (c.look_store.ensures.looks.stays N held) c.in_ok-stale.ensures.answer in
    stale_stops N last c.in_ok-tree.tree k c.in-Some.folder (subst (λ o. TellsStale k.tree o) c.in-Some.is answer)

pub returns-in-None-clause-found : goal.returns-in-None-clause-found
returns-in-None-clause-found g c = λ N held.
    let last = g.K.NodeReader.last c.args.keeper.now in
    let k = c.in_ok-tree.ensures.found N held in
    let answer = told N last c.in_ok-tree.tree k (λ Y. TellsStale Y c.in_ok-stale.stale) c.look_store.ensures.looks.counters (c.look_store.ensures.looks.stays N held) c.in_ok-stale.ensures.answer in
    knows N last c.in_ok-tree.tree k (subst (λ o. TellsStale k.tree o) c.in-None.is answer)
