use Rattle.std.proofs.Common.{◌∙◌, sym}
use Rattle.mail_session.proofs.MemoryLaws.{at_place, has_none, has_some, no_place, other_still, pins_gone}
use Rattle.mail_session.proofs.pinning.MemoryKeeperPinner.unpin.Goals as goal

pub returns-in-Some-clause-was_open : goal.returns-in-Some-clause-was_open
returns-in-Some-clause-was_open g c = sym (has_some c.args.p c.args.self.now.given c.args.self.now.pins.items c.remove-gone.result c.in-Some.i (sym c.place.ensures ∙ c.in-Some.is))

pub returns-in-Some-clause-pins : goal.returns-in-Some-clause-pins
returns-in-Some-clause-pins g c = pins_gone c.args.p c.args.self.now.given c.args.self.now.pins.items c.remove-gone.new.self.items (c.remove-gone.ensures.items ∙ sym (at_place c.args.p c.args.self.now.pins.items c.remove-gone.result c.in-Some.i (sym c.place.ensures ∙ c.in-Some.is)).1)

pub returns-in-Some-clause-others : goal.returns-in-Some-clause-others
returns-in-Some-clause-others g c = λ v q N other is. other_still c.args.p q c.args.self.now.pins.items c.remove-gone.new.self.items N (c.remove-gone.ensures.items ∙ sym (at_place c.args.p c.args.self.now.pins.items c.remove-gone.result c.in-Some.i (sym c.place.ensures ∙ c.in-Some.is)).1) other is

pub returns-in-None-clause-was_open : goal.returns-in-None-clause-was_open
returns-in-None-clause-was_open g c = sym (has_none c.args.p c.args.self.now.given c.args.self.now.pins.items (sym c.place.ensures ∙ c.in-None.is))

pub returns-in-None-clause-pins : goal.returns-in-None-clause-pins
returns-in-None-clause-pins g c = pins_gone c.args.p c.args.self.now.given c.args.self.now.pins.items c.args.self.now.pins.items (sym (no_place c.args.p c.args.self.now.pins.items (sym c.place.ensures ∙ c.in-None.is)).1)
