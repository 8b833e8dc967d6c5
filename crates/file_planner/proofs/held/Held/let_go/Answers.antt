use Rattle.std.proofs.Common.{◌∙◌, sym}
use Rattle.file_planner.proofs.HoldingLaws.{at-place, no-place, sized-without}
use Rattle.file_planner.proofs.held.Held.let_go.Goals as goal

pub returns-in_default-clause-pins : goal.returns-in_default-clause-pins
returns-in_default-clause-pins c = sym (no-place c.args.number c.args.self.now.pins.items (sym c.place.ensures ∙ c.in_default.is)).1

pub returns-clause-pins : goal.returns-clause-pins
returns-clause-pins c = c.settle.ensures.pins ∙ c.remove-let_go.ensures.items ∙ sym (at-place c.args.number c.args.self.now.pins.items c.remove-let_go.result c.in-Some.i (sym c.place.ensures ∙ c.in-Some.is)).1

pub returns-clause-holding : goal.returns-clause-holding
returns-clause-holding c = λ is.
    c.settle.ensures.holding (sized-without c.args.own.now c.args.number c.args.self.now.pins.items _ c.args.self.now.all
    (c.remove-let_go.ensures.items ∙ sym (at-place c.args.number c.args.self.now.pins.items c.remove-let_go.result c.in-Some.i (sym c.place.ensures ∙ c.in-Some.is)).1) is.sized)
