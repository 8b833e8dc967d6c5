use Rattle.std.proofs.Common.{rules, ◌∙◌, sym, ap, subst}
use Rattle.std.proofs.lemmas.Result.{on_ok_weaker}
use Rattle.pst_outside.specs.World.{after_write}
use Rattle.pst_outside.proofs.Moments.{weaker}
use Rattle.gate_file.specs.Gate.{IsArmed}
use Rattle.gate_file.proofs.Effects.{arm_same, armed_now}
use Rattle.gate_file.proofs.gate.arm.Goals as goal

pub returns-clause-armed : goal.returns-clause-armed
returns-clause-armed g c = λ closed.
    let old = (g.W.Outside.view c.args.w.now).here.side in
    on_ok_weaker c.write_through.result
    (λ written told. subst (IsArmed c.args.h.now) (sym (written told ∙ ap (after_write old 1) c.behind.ensures)) (armed_now old c.args.h.now (search rules) (closed (c.write_through.ensures.content.told told))))
    c.write_through.ensures.after

pub returns-clause-same : goal.returns-clause-same
returns-clause-same g c = λ settled closed. weaker _ (c.write_through.ensures.any_moment settled) (λ i told torn. arm_same (search rules) (closed (c.write_through.ensures.content.told told)) torn)
