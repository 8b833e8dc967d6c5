use Rattle.std.proofs.Common.{◌≡◌, ◌+◌, ℕ, take, get_or, refl, ap, subst, arith}
use Rattle.std.proofs.lemmas.List.{take_all}
use Rattle.compactor.proofs.RisingLaws.{Rises, rises-all, rises-more, rises-not}
use Rattle.compactor.proofs.rising.are_rising.Goals as goal

pub returns-then-key-least : goal.returns-then-key-least
returns-then-key-least g c =
    let test = c.loop-entry-test.true in
    let i = c.loop-entry.entry-index in
    let x = c.entry-item.result in
    let es = c.args.entries.now in
    let value = c.key.ensures.value in
    let here = ap g.E.Entry.key c.entry-item.is in
    let wide = c.from-key.ensures in
    let less = c.if-key-least.true in
    (λ none. absurd (cc), λ rise. absurd (rises-not g.E.Entry.key c.loop-entry.least es i x (omega (arith, test)) c.loop-entry.invariant.rises (omega (arith, value, here, wide, less)) rise))

pub loop-entry-preserved : goal.loop-entry-preserved
loop-entry-preserved g c =
    let test = c.loop-entry-test.true in
    let i = c.loop-entry.entry-index in
    let x = c.entry-item.result in
    let es = c.args.entries.now in
    let value = c.key.ensures.value in
    let here = ap g.E.Entry.key c.entry-item.is in
    let wide = c.from-key.ensures in
    let low = c.if-key-least.false in
    let same : g.E.Entry.key (get_or es i x) ≡ c.from-key.result = omega (arith, value, here, wide) in
    record {
      rises = subst (λ (k : ℕ). Rises g.E.Entry.key (k + 1) (take (i + 1) es)) same (rises-more g.E.Entry.key c.loop-entry.least es i x (omega (arith, test)) c.loop-entry.invariant.rises (omega (arith, same, low)));
      few = omega (arith, wide);
    }

pub returns : goal.returns
returns g c =
    let test = c.loop-entry-test.false in
    let es = c.args.entries.now in
    let all = take_all c.loop-entry.entry-index es (omega (arith, test)) in
    (λ yes. rises-all g.E.Entry.key c.loop-entry.least es (subst (Rises g.E.Entry.key c.loop-entry.least) all c.loop-entry.invariant.rises) c.loop-entry.invariant.few, λ rise. refl)
