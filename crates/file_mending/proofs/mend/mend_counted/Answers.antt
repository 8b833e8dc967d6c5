use Rattle.file_mending.specs.FileMends.{StandsMendable}
use Rattle.file_mending.proofs.Opened.{mends_then, stood}
use Rattle.search_mends.specs.Mends.{HasMendable, MendRun}
use Rattle.mail_searches.specs.Searching.{Searching}
use Rattle.search_mends.specs.store_session.Disks.{medium}
use Rattle.file_mending.proofs.mend.mend_counted.Goals as goal

pub returns-clause-mends : goal.returns-clause-mends
returns-clause-mends g c = λ tidy X has disk.
    let K = g.K.NodeReader in
    let view = g.W.Outside.view in
    let store = c.mend_searches.new.store in
    let w = c.mend_searches.new.w in
    let found = (K.room c.args.store.now.store.keeper).found in
    let room = K.room store.store.keeper in
    let Ran : Searching → Type 0 = λ Y. MendRun (g.K.Keeper.applied (K.room c.args.store.now.store.keeper).pins) (view w).tells X (medium (view c.args.w.now)) Y (medium (view w)) in
    mends_then (λ Y. HasMendable K.holds K.last g.K.Keeper.rests store (view w) tidy Y × Ran Y) (λ Y. StandsMendable tidy (g.K.Keeper.stands found) g.K.Keeper.measures room (view w) Y × Ran Y) room X c.mend_searches.result
    (λ Y h. (stood view K.holds K.last g.K.Keeper.rests g.K.Keeper.stands g.K.Keeper.measures K.room g.met.K.Keeper.held_stands g.met.K.Keeper.held_measures found store w c.mend_searches.ensures.found tidy Y h.0, h.1))
    (c.mend_searches.ensures.mends tidy X has disk)
