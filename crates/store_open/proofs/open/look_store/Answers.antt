use Rattle.store_open.specs.Opening.{StopsLook}
use Rattle.store_open.specs.Stops.{of_look, of_searches}
use Rattle.store_open.proofs.Opened.{folders_stop, looked, passed_on, searches_stop}
use Rattle.store_open.proofs.open.look_store.Goals as goal

pub returns-in_err-places-clause-stops : goal.returns-in_err-places-clause-stops
returns-in_err-places-clause-stops g c = λ N held.
    let stop = c.in_err-places.field-0.0 in
    passed_on (StopsLook N) (of_look stop) c.from_residual.result c.from_residual.ensures.1 (folders_stop N stop (c.in_err-places.ensures.found N held))

pub returns-in_err-searches-clause-stops : goal.returns-in_err-searches-clause-stops
returns-in_err-searches-clause-stops g c = λ N held.
    let stop = c.in_err-searches.field-0.0 in
    let tree = c.in_ok-places.ensures.found N held in
    let now = c.look_folders.ensures.looks.stays N held in
    passed_on (StopsLook N) (of_searches stop) c.from_residual-in_err-searches.result c.from_residual-in_err-searches.ensures.1
    (searches_stop N c.in_ok-places.places _ _ _ _ stop tree (c.in_err-searches.ensures.found N now tree) now c.in_err-searches.ensures.stops)

pub returns-clause-found : goal.returns-clause-found
returns-clause-found g c = λ N held.
    let tree = c.in_ok-places.ensures.found N held in
    let listed = c.in_ok-places.ensures.flags N held in
    let now = c.look_folders.ensures.looks.stays N held in
    looked N (g.K.NodeReader.last c.args.keeper.now) (record { places = c.in_ok-places.places; flags = c.in_ok-places.flags }) c.in_ok-searches.searches tree listed
    (c.in_ok-places.ensures.known N held) (c.in_ok-searches.ensures.found N now tree)
