use Rattle.std.proofs.Common.{sym, subst, ℕ, List}
use Rattle.ref_counts.specs.Tables.{first, IsAscending, StandsAt, IsMissing, KeepsKeys, HasKey}
use Rattle.ref_counts.proofs.SeatLaws.{found-here, ascend-insert, insert-keeps, has-insert}
use Rattle.ref_counts.proofs.entries.add_key.Goals as goal

pub returns-in-Ok-clause-has : goal.returns-in-Ok-clause-has
returns-in-Ok-clause-has c =
    let there : StandsAt c.args.entries.now.items c.args.key c.in-Ok.field-0 = subst (λ (xs : List (ℕ × ℕ)). StandsAt xs c.args.key c.in-Ok.field-0) c.as_slice.ensures.value c.in-Ok.ensures.there in
    ((c.args.key, there.number), found-here c.args.entries.now.items c.args.key c.in-Ok.field-0 there)

pub returns-in_ok-insert-in-Err-clause-ascend : goal.returns-in_ok-insert-in-Err-clause-ascend
returns-in_ok-insert-in-Err-clause-ascend c = subst (λ (xs : List (ℕ × ℕ)). IsAscending first xs) (sym c.in_ok-insert-in-Err.ensures.items) (ascend-insert c.args.entries.now.items c.args.key c.in-Err.at (subst (λ (xs : List (ℕ × ℕ)). IsMissing xs c.args.key c.in-Err.at) c.as_slice.ensures.value c.in-Err.ensures.missing) 0)

pub returns-in_ok-insert-in-Err-clause-keeps : goal.returns-in_ok-insert-in-Err-clause-keeps
returns-in_ok-insert-in-Err-clause-keeps c = subst (λ (xs : List (ℕ × ℕ)). KeepsKeys c.args.entries.now.items xs) (sym c.in_ok-insert-in-Err.ensures.items) (insert-keeps c.args.entries.now.items c.args.key c.in-Err.at (subst (λ (xs : List (ℕ × ℕ)). IsMissing xs c.args.key c.in-Err.at) c.as_slice.ensures.value c.in-Err.ensures.missing))

pub returns-in_ok-insert-in-Err-clause-has : goal.returns-in_ok-insert-in-Err-clause-has
returns-in_ok-insert-in-Err-clause-has c = subst (λ (xs : List (ℕ × ℕ)). HasKey xs c.args.key) (sym c.in_ok-insert-in-Err.ensures.items) (has-insert c.args.entries.now.items c.args.key c.in-Err.at (subst (λ (xs : List (ℕ × ℕ)). IsMissing xs c.args.key c.in-Err.at) c.as_slice.ensures.value c.in-Err.ensures.missing) 0)
