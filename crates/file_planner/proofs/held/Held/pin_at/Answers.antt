use Rattle.std.proofs.Common.{◌∙◌, Some, sym, ap}
use Rattle.std.specs.Option.{option_map}
use Rattle.file_planner.proofs.HoldingLaws.{at-place, no-place}
use Rattle.file_planner.proofs.held.Held.pin_at.Goals as goal

pub returns-in_default : goal.returns-in_default
returns-in_default c = sym (ap (option_map (λ pin. pin.0)) (no-place c.args.number c.args.self.now.pins.items (sym c.place.ensures ∙ c.in_default.is)).0)

pub returns : goal.returns
returns c = ap (λ pin. Some pin.0) c.index.ensures ∙ sym (ap (option_map (λ pin. pin.0)) (at-place c.args.number c.args.self.now.pins.items c.index.result.now c.in-Some.i (sym c.place.ensures ∙ c.in-Some.is)).0)
