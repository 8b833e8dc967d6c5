use Rattle.std.proofs.Common.{◌∙◌, ◌^◌, ◌≤◌, ap, sym, subst, refl, min, Ok}
use Rattle.std.proofs.lemmas.Result.{err_from_is_err_and}
use Rattle.node_port.specs.Stops.{RoomDecides, size}
use Rattle.staged_nodes.specs.declared.staging.StagedReady.{StagedReady}
use Rattle.staged_nodes.specs.Room.{room_beside}
use Rattle.staged_nodes.specs.Sizes.{replaced}
use Rattle.staged_nodes.specs.Staged.{staged_size}
use Rattle.staged_nodes.proofs.LookLaws.{decides_alike}
use Rattle.staged_nodes.proofs.SizeLaws.{replaced-le, size-planned}
use Rattle.staged_nodes.proofs.staging.Staging.plan.Goals as goal

pub returns-in_err-decide-clause-decides : goal.returns-in_err-decide-clause-decides
returns-in_err-decide-clause-decides c = λ has is.
    let p = err_from_is_err_and c.from_residual.result c.from_residual.ensures.1 in
    rw (p.1, p.2) (decides_alike (Unit {0}) StagedReady (room_beside c.args.self.now.size has) c.args.changes.room c.as_slice-nodes.result.now c.args.changes.nodes.items c.in_err-decide.field-0.0 c.as_slice-nodes.ensures.value (c.in_err-decide.ensures.decides has is))

pub returns-clause-fits : goal.returns-clause-fits
returns-clause-fits c =
    let same = c.as_slice-nodes.ensures.value in
    record {
      nodes = refl;
      counters = refl;
      size = λ F is.
          let le = replaced-le F 0 c.args.changes.nodes.items c.requires.order in
          let gone = c.replaced.ensures F is (subst (λ cs. replaced F cs ≤ staged_size F) (sym same) le) ∙ ap (replaced F) same in
          let more = c.count_nodes.ensures ∙ ap (λ cs. min (size cs) (2 ^ 60)) same in
          size-planned F c.args.changes.nodes.items c.args.self.now.size c.replaced.result c.saturating_sub-kept.result c.count_nodes.result c.saturating_add.result c.min-size.result is.size is.few c.requires.order gone c.saturating_sub-kept.ensures more c.saturating_add.ensures c.min-size.ensures;
    }

pub returns-clause-decides : goal.returns-clause-decides
returns-clause-decides c = λ has is.
    subst (λ cs. RoomDecides {R = Unit {0}} (room_beside c.args.self.now.size has) c.args.changes.room cs (Ok tt)) c.as_slice-nodes.ensures.value (c.in_ok-decide.ensures.decides has is)
