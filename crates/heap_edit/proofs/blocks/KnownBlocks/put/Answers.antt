use Rattle.std.proofs.Common.{◌≡◌, ◌<◌, ◌≤◌, ◌+◌, ap, refl, subst, arith}
use Rattle.heap_edit.specs.Edits.{with_at}
use Rattle.heap_edit.specs.Known.{Known, Makes}
use Rattle.heap_edit.proofs.KnownLaws.{makes-end, makes-in}
use Rattle.heap_edit.proofs.blocks.KnownBlocks.put.Goals as goal

pub returns-then-position-self-clause-ok : goal.returns-then-position-self-clause-ok
returns-then-position-self-clause-ok c =
    subst (λ (e : Known). Makes (λ old now. now ≡ with_at old c.args.position c.args.block) e (record { was = c.self.inside.was; known = c.self.inside.known; puts = c.put.new.self; len = c.self.inside.len + 1 })) c.self.view_is
    (makes-end (record { was = c.self.inside.was; known = c.self.inside.known; puts = c.self.inside.puts; len = c.self.inside.len })
    (record { was = c.self.inside.was; known = c.self.inside.known; puts = c.put.new.self; len = c.self.inside.len + 1 })
    c.args.position c.args.block refl refl c.in_ok-put.ensures.ok refl c.if-position-self.true)

pub returns-else-position-self-clause-ok : goal.returns-else-position-self-clause-ok
returns-else-position-self-clause-ok c =
    let within : c.args.position ≤ c.self.inside.len = omega (arith, c.requires.within, ap (λ (e : Known). e.len) c.self.view_is) in
    let ne = c.if-position-self.false in
    let low : c.args.position < c.self.inside.len = grind arith in
    subst (λ (e : Known). Makes (λ old now. now ≡ with_at old c.args.position c.args.block) e (record { was = c.self.inside.was; known = c.self.inside.known; puts = c.put.new.self; len = c.self.inside.len })) c.self.view_is
    (makes-in (record { was = c.self.inside.was; known = c.self.inside.known; puts = c.self.inside.puts; len = c.self.inside.len })
    (record { was = c.self.inside.was; known = c.self.inside.known; puts = c.put.new.self; len = c.self.inside.len })
    c.args.position c.args.block refl refl c.in_ok-put.ensures.ok refl low)
