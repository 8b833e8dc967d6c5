use Rattle.std.proofs.Common.{◌≡◌, ◌+◌, ◌∙◌, ◌==◌, None, arith, position, refl, sym}
use Rattle.mail_session.specs.declared.copied.MemoryPin.{MemoryPin}
use Rattle.mail_session.proofs.MemoryLaws.{new_tells, none_there, pin_added, still_told}
use Rattle.mail_session.proofs.pinning.MemoryKeeperPinner.pin.Goals as goal

pub returns-clause-pinned : goal.returns-clause-pinned
returns-clause-pinned g c = λ v N held.
    let none : position (λ (pin : MemoryPin). pin.number == c.args.self.now.given + 1) c.args.self.now.pins.items ≡ None = sym c.place.ensures ∙ none_there c.place.result (sym c.is_some.ensures ∙ c.if-is_some.false) in
    new_tells c.args.self.now.pins.items c.push.new.self.items _ N none c.in_ok-push.ensures.items (c.in_ok-nodes.ensures.copies N held)

pub returns-clause-adds : goal.returns-clause-adds
returns-clause-adds g c = pin_added c.args.self.now.given c.args.self.now.pins.items _ c.push.new.self.items c.in_ok-push.ensures.items refl (omega arith) (omega arith)

pub returns-clause-others : goal.returns-clause-others
returns-clause-others g c = λ v q N is. still_told q c.args.self.now.pins.items _ c.push.new.self.items N c.in_ok-push.ensures.items is
