use Rattle.std.proofs.Common.{◌∙◌, ap, sym, subst}
use Rattle.std.specs.Option.{is_some}
use Rattle.file_blocks.specs.Blocks.{file_of}
use Rattle.pst_commit.specs.Held.{StandsAt, held_at}
use Rattle.pst_commit.specs.Keeping.{pins_of}
use Rattle.pst_commit.proofs.PinLaws.{has_held, held_other, holds_more, opened_of_without, pins_with}
use Rattle.pst_commit.proofs.pins.FileKeeperPinner.unpin.Goals as goal

pub returns-clause-was_open : goal.returns-clause-was_open
returns-clause-was_open g c = c.is_some-is_open.ensures ∙ ap is_some c.pin_at.ensures ∙ has_held c.args.p (g.S.NodeStore.held c.args.self.now.store)

pub returns-clause-pins : goal.returns-clause-pins
returns-clause-pins g c = ap (pins_of c.args.self.now.given) c.let_go.ensures.pins ∙ ap (pins_with c.args.self.now.given) (opened_of_without c.args.p (g.S.NodeStore.held c.args.self.now.store))

pub returns-clause-stays : goal.returns-clause-stays
returns-clause-stays g c = λ v N holds. let k = c.args.self.now in holds_more (g.W.Outside.view v) k.found N (c.let_go.ensures.known k.header) holds

pub returns-clause-others : goal.returns-clause-others
returns-clause-others g c = λ v q N other is.
    let k = c.args.self.now in
    let file = file_of (g.W.Outside.view v).here in (
      is.0,
      subst (λ o. StandsAt k.header file o N) (sym (ap (held_at q) c.let_go.ensures.pins ∙ held_other c.args.p q (g.S.NodeStore.held k.store) other)) is.1,
    )
