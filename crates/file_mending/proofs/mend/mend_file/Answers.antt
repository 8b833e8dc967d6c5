use Rattle.std.proofs.Common.{◌∙◌, Err, IfErr, ap, inl, inr, sym, subst, true}
use Rattle.search_mends.specs.Stops.{IsCaused}
use Rattle.lays_kept.specs.Stands.{Stands}
use Rattle.node_port.specs.Pins.{Pins}
use Rattle.pst_commit.specs.Keeping.{HasRoom, IsCommitted}
use Rattle.search_mends.specs.store_session.Disks.{medium}
use Rattle.search_mends.specs.Mends.{MendRun, MendsSearches}
use Rattle.file_mending.specs.FileMends.{FileMendEnds, StandsMendable}
use Rattle.file_mending.proofs.Opened.{ends_caused, ends_mended, ends_unmended, mends_over, refused_is, same_end, stop_caused}
use Rattle.file_mending.proofs.mend.mend_file.Goals as goal

pub returns-in-Err-clause-refused : goal.returns-in-Err-clause-refused
returns-in-Err-clause-refused g c = λ refusal is.
    refused_is (g.W.Outside.view c.args.world.now) (g.W.Outside.view c.open_mendable.new.w) c.in-Err.stop refusal (sym c.unopened.ensures ∙ is) c.in-Err.ensures.clean c.in-Err.ensures.refused

pub returns-in-Err-clause-ends : goal.returns-in-Err-clause-ends
returns-in-Err-clause-ends g c = λ end is tells.
    inl (ends_unmended (g.W.Outside.view c.args.world.now) (g.W.Outside.view c.open_mendable.new.w) c.in-Err.stop end (sym c.unopened.ensures ∙ is)
    (c.in-Err.ensures.refused tells) (c.in-Err.ensures.store tells) c.in-Err.ensures.clean c.in-Err.ensures.any_moment)

pub returns-in-Err-clause-cause : goal.returns-in-Err-clause-cause
returns-in-Err-clause-cause g c = λ end is.
    stop_caused (g.W.Outside.view c.args.world.now) (g.W.Outside.view c.open_mendable.new.w) c.in-Err.stop end (sym c.unopened.ensures ∙ is) (λ e. c.in-Err.ensures.fault (ap Err e))

pub returns-in-Ok-clause-ends : goal.returns-in-Ok-clause-ends
returns-in-Ok-clause-ends g c = λ end is tells.
    let first = g.W.Outside.view c.args.world.now in
    let mid = g.W.Outside.view c.open_mendable.new.w in
    let now = g.W.Outside.view c.mend_counted.new.w in
    let o = c.in-Ok.opened in
    let told = c.mend_counted.ensures.told tells in
    let call = c.mend_counted.ensures in
    let pins = c.in-Ok.ensures.no_pins in
    let becomes = g.S.NodeStore.becomes in
    let costs = g.S.NodeStore.costs in
    subst (λ e. FileMendEnds becomes costs first now e) (same_end c.mend_counted.result end is)
    (inr (ends_mended becomes costs (g.S.NodeStore.knows o.keeper.store) o.keeper.found o.keeper.header o.tree first mid now c.mend_counted.result _
    (c.in-Ok.ensures.looked told) tells c.mend_counted.ensures.told (c.in-Ok.ensures.store told) c.in-Ok.ensures.written (c.in-Ok.ensures.idle told) c.in-Ok.ensures.settled c.in-Ok.ensures.shut c.in-Ok.ensures.any_moment
    (λ tidy X stores order settled rests. (
      mends_over becomes costs tidy o.keeper.found _ mid now X c.mend_counted.result pins (call.mends tidy X (record { stores = stores; order = order; settled = settled; at_rest = rests }) (λ e. tells)),
      call.images tidy X (record { stores = stores; order = order; settled = settled; at_rest = rests }) (λ e. tells),
    ))))

pub returns-in-Ok-clause-cause : goal.returns-in-Ok-clause-cause
returns-in-Ok-clause-cause g c = λ end is.
    subst (λ e. IfErr e (IsCaused true (g.W.Outside.view c.args.world.now).disk_faults (g.W.Outside.view c.mend_counted.new.w).disk_faults)) (same_end c.mend_counted.result end is)
    (ends_caused (g.W.Outside.view c.mend_counted.new.w).disk_faults c.mend_counted.result c.in-Ok.ensures.counts c.mend_counted.ensures.cause)
