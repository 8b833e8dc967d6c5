use Rattle.std.proofs.Common.{◌≡◌, ◌+◌, ◌∙◌, None, sym, subst}
use Rattle.file_blocks.specs.Blocks.{file_of}
use Rattle.pst_commit.specs.Held.{StandsAt, held_at, pin_at}
use Rattle.pst_commit.proofs.PinLaws.{held_more, holds_more, new_pinned, none_at}
use Rattle.pst_commit.proofs.pins.FileKeeperPinner.pin.Goals as goal

pub returns-in_err-hold-clause-stays : goal.returns-in_err-hold-clause-stays
returns-in_err-hold-clause-stays g c = λ v N holds. let k = c.args.self.now in holds_more (g.W.Outside.view v) k.found N (c.in_err-hold.ensures.known k.header) holds

pub returns-clause-pinned : goal.returns-clause-pinned
returns-clause-pinned g c = λ v N holds.
    let k = c.args.self.now in
    let held = g.S.NodeStore.held k.store in
    let none : pin_at (k.given + 1) held ≡ None = sym c.pin_at.ensures ∙ none_at c.pin_at.result (sym c.is_some.ensures ∙ c.if-is_some.false) in
    new_pinned (g.W.Outside.view v) (g.met.S.NodeStore.known_right k.store) k.found N (k.given + 1) held (g.S.NodeStore.held c.hold.new.self) none c.in_ok-hold.ensures.pins holds

pub returns-clause-stays : goal.returns-clause-stays
returns-clause-stays g c = λ v N holds. let k = c.args.self.now in holds_more (g.W.Outside.view v) k.found N (c.in_ok-hold.ensures.known k.header) holds

pub returns-clause-others : goal.returns-clause-others
returns-clause-others g c = λ v q N is.
    let k = c.args.self.now in
    let file = file_of (g.W.Outside.view v).here in (
      is.0,
      subst (λ h. StandsAt k.header file (held_at q h) N) (sym c.in_ok-hold.ensures.pins) (held_more k.header file q N (g.S.NodeStore.held k.store) _ is.1),
    )
