use Rattle.std.proofs.Common.{◌≤◌, ◌*◌, ◌/◌, ℕ, subst, sym, arith}
use Rattle.std.proofs.Math.Nat.{div-mul-le_self}
use Rattle.std.proofs.lemmas.Nat.{le-div, div_below}
use Rattle.tree_edit.proofs.pack.most_at.Goals as goal

pub returns-clause-holds : goal.returns-clause-holds
returns-clause-holds g c = subst (λ (n : ℕ). (488 / c.entry_size.result) * n ≤ 488) c.entry_size.ensures.value (div-mul-le_self 488 c.entry_size.result)

pub returns-clause-most : goal.returns-clause-most
returns-clause-most g c = λ n fits.
    let low = c.entry_size.ensures.low in
    le-div n 488 c.entry_size.result (omega (arith, low)) (subst (λ (s : ℕ). n * s ≤ 488) (sym c.entry_size.ensures.value) fits)

pub returns-clause-low : goal.returns-clause-low
returns-clause-low g c =
    let low = c.entry_size.ensures.low in
    let high = c.entry_size.ensures.high in
    le-div 15 488 c.entry_size.result (omega (arith, low)) (omega (arith, high))

pub returns-clause-high : goal.returns-clause-high
returns-clause-high g c =
    let low = c.entry_size.ensures.low in
    let below = div_below 488 c.entry_size.result 21 (omega (arith, low)) (omega (arith, low)) in
    omega (arith, below)
