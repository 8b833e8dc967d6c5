use Rattle.std.proofs.Common.{◌≡◌, refl, sym, subst}
use Rattle.pst_outside.specs.World.{Image}
use Rattle.pst_outside.proofs.Moments.{quiet, stays_settled}
use Rattle.gate_file.specs.Gate.{IsShut, SameStore}
use Rattle.file_layout.proofs.Underway.{untouched_then}
use Rattle.lays_kept.specs.Stands.{Stands}
use Rattle.pst_commit.proofs.Resaved.{nodes_then}
use Rattle.file_open.proofs.Keepers.{still_looked}
use Rattle.file_open.proofs.open.open_mendable.Goals as goal

pub returns-in_err-opened-clause-any_moment : goal.returns-in_err-opened-clause-any_moment
returns-in_err-opened-clause-any_moment g c = λ settled found N last stands.
    quiet (λ i. (i.said ≡ (g.W.Outside.view c.args.w.now).here.said) × Stands found i N last) settled c.look_file.ensures.same (λ told. (refl, stands told))

pub returns-in_err-side_len-clause-any_moment : goal.returns-in_err-side_len-clause-any_moment
returns-in_err-side_len-clause-any_moment g c = λ settled found N last stands.
    quiet (λ i. (i.said ≡ (g.W.Outside.view c.args.w.now).here.said) × Stands found i N last) settled (untouched_then c.look_file.ensures.same c.side_len.ensures.same) (λ told. (refl, stands told))

pub returns-in_err-close_gate-clause-any_moment : goal.returns-in_err-close_gate-clause-any_moment
returns-in_err-close_gate-clause-any_moment g c = λ settled found N last stands.
    let before = untouched_then c.look_file.ensures.same c.side_len.ensures.same in
    nodes_then found N refl c.close_gate.ensures.told
    (quiet (λ i. (i.said ≡ (g.W.Outside.view c.args.w.now).here.said) × Stands found i N last) settled before (λ told. (refl, stands told)))
    (c.close_gate.ensures.any_moment (stays_settled settled before) found N last (λ told. subst (λ (i : Image). Stands found i N last) (sym (before.stays.here told)) (stands (before.stays.told told))))

pub returns-clause-any_moment : goal.returns-clause-any_moment
returns-clause-any_moment g c = λ settled found N last stands.
    let before = untouched_then c.look_file.ensures.same c.side_len.ensures.same in
    nodes_then found N refl c.close_gate.ensures.told
    (quiet (λ i. (i.said ≡ (g.W.Outside.view c.args.w.now).here.said) × Stands found i N last) settled before (λ told. (refl, stands told)))
    (c.close_gate.ensures.any_moment (stays_settled settled before) found N last (λ told. subst (λ (i : Image). Stands found i N last) (sym (before.stays.here told)) (stands (before.stays.told told))))

pub returns-clause-looked : goal.returns-clause-looked
returns-clause-looked g c = λ told.
    let later = c.close_gate.ensures.told told in
    let same = c.side_len.ensures.same.stays in
    still_looked (c.in_ok-opened.ensures.looked (same.told later))
    (subst (λ (i : Image). SameStore i (g.W.Outside.view c.close_gate.new.w).here) (same.here later) (c.close_gate.ensures.store told)) told

pub returns-in_err-side_len-clause-idle : goal.returns-in_err-side_len-clause-idle
returns-in_err-side_len-clause-idle g c = λ told shut. untouched_then c.look_file.ensures.same c.side_len.ensures.same

pub returns-in_err-close_gate-clause-idle : goal.returns-in_err-close_gate-clause-idle
returns-in_err-close_gate-clause-idle g c = λ told shut.
    let before = untouched_then c.look_file.ensures.same c.side_len.ensures.same in
    untouched_then before (c.close_gate.ensures.idle told (subst (λ (i : Image). IsShut i.side) (sym (before.stays.here (c.close_gate.ensures.told told))) shut))

pub returns-clause-idle : goal.returns-clause-idle
returns-clause-idle g c = λ told shut.
    let before = untouched_then c.look_file.ensures.same c.side_len.ensures.same in
    untouched_then before (c.close_gate.ensures.idle told (subst (λ (i : Image). IsShut i.side) (sym (before.stays.here (c.close_gate.ensures.told told))) shut))
