use Rattle.std.proofs.Common.{◌∙◌, sym, ap, subst, refl, drop}
use Rattle.pst_outside.proofs.Moments.{weaker, tells_now}
use Rattle.gate_file.specs.Gate.{IsOpen}
use Rattle.gate_file.proofs.Effects.{gate_either, opened_now, after_first}
use Rattle.gate_file.proofs.gate.fire.Goals as goal

pub returns-clause-open_in_images : goal.returns-clause-open_in_images
returns-clause-open_in_images g c = λ settled size i left.
    let old = g.W.Outside.view c.args.w.now in
    let new = g.W.Outside.view c.write_through.new.w in
    let told = tells_now new i left in
    let side = ap (λ d. d.side) (c.in_ok-write_through.ensures.settled settled i left) ∙ c.in_ok-write_through.ensures.after told ∙ after_first old.here.side 1 in
    subst (IsOpen (drop 16 old.here.side)) (sym side) (opened_now old.here.side (size (c.write_through.ensures.content.told told)))

pub returns-clause-either : goal.returns-clause-either
returns-clause-either g c = λ settled size. weaker _ (c.write_through.ensures.any_moment settled) (λ i told torn. gate_either refl (size (c.write_through.ensures.content.told told)) torn)

pub returns-in_err-write_through-clause-either : goal.returns-in_err-write_through-clause-either
returns-in_err-write_through-clause-either g c = λ settled size. weaker _ (c.write_through.ensures.any_moment settled) (λ i told torn. gate_either refl (size (c.write_through.ensures.content.told told)) torn)
