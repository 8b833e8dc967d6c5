use Rattle.std.proofs.Common.{ℕ, Bool, ◌&&◌, ◌+◌, ◌-◌, ◌∙◌, arith, map, sym}
use Rattle.search_obj.specs.Scope.{is_among}
use Rattle.mail_searches.specs.Searches.{is_plain_at}
use Rattle.mail_searches.proofs.PathWalks.{meets-above, meets-here, meets-last, meets-none}
use Rattle.mail_searches.proofs.scoping.is_below_given.Goals as goal

pub returns-then-is_given : goal.returns-then-is_given
returns-then-is_given c =
    let test : ℕ → Bool = λ g. is_among (map (λ n. n.bits) c.args.given.now) g && is_plain_at c.args.places.now g in
    sym (c.loop-turn.invariant ∙ meets-here test c.args.places.now (64 - c.loop-turn._turn) c.loop-turn.at.bits (sym c.if-is_given.ensures))

pub returns-in_default : goal.returns-in_default
returns-in_default c =
    let test : ℕ → Bool = λ g. is_among (map (λ n. n.bits) c.args.given.now) g && is_plain_at c.args.places.now g in
    sym (c.loop-turn.invariant ∙ meets-none test c.args.places.now (64 - c.loop-turn._turn) c.loop-turn.at.bits (sym c.if-is_given.ensures) (sym c.in_default.ensures))

pub loop-turn-preserved : goal.loop-turn-preserved
loop-turn-preserved c =
    let test : ℕ → Bool = λ g. is_among (map (λ n. n.bits) c.args.given.now) g && is_plain_at c.args.places.now g in
    c.loop-turn.invariant
    ∙ meets-above test c.args.places.now (64 - c.loop-turn._turn) (64 - (c.loop-turn._turn + 1)) c.loop-turn.at.bits c.in-Some.parent.bits (omega (arith, c.loop-turn-test.true)) (sym c.if-is_given.ensures) (sym c.in-Some.ensures)

pub returns : goal.returns
returns c =
    let test : ℕ → Bool = λ g. is_among (map (λ n. n.bits) c.args.given.now) g && is_plain_at c.args.places.now g in
    c.is_given-2.ensures ∙ sym (c.loop-turn.invariant ∙ meets-last test c.args.places.now (64 - c.loop-turn._turn) c.loop-turn.at.bits (omega (arith, c.loop-turn-test.false)))
