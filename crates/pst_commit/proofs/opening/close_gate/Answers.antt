use Rattle.std.proofs.Common.{◌≡◌}
use Rattle.pst_outside.proofs.Moments.{weaker}
use Rattle.lays_kept.specs.Stands.{Stands}
use Rattle.pst_commit.proofs.Outcomes.{stands_over}
use Rattle.pst_commit.proofs.opening.close_gate.Goals as goal

pub returns-in_err-recover_gate-clause-any_moment : goal.returns-in_err-recover_gate-clause-any_moment
returns-in_err-recover_gate-clause-any_moment g c = λ settled found N last stands.
    weaker (λ i. (i.said ≡ (g.W.Outside.view c.args.w.now).here.said) × Stands found i N last) (c.recover_gate.ensures.any_moment settled)
    (λ i told same. (same.said, stands_over (stands (c.recover_gate.ensures.told told)) same))

pub returns-clause-any_moment : goal.returns-clause-any_moment
returns-clause-any_moment g c = λ settled found N last stands.
    weaker (λ i. (i.said ≡ (g.W.Outside.view c.args.w.now).here.said) × Stands found i N last) (c.recover_gate.ensures.any_moment settled)
    (λ i told same. (same.said, stands_over (stands (c.recover_gate.ensures.told told)) same))
