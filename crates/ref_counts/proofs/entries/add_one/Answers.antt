use Rattle.std.proofs.Common.{sym, ap, subst, ◌≡◌, ◌+◌, ℕ, List, cond, eqb, ◌∙◌, arith, inl, inr}
use Rattle.ref_counts.specs.Tables.{first, refs_in, number_of, IsAscending, StandsAt, IsMissing}
use Rattle.ref_counts.proofs.TableLaws.{tested}
use Rattle.ref_counts.proofs.SeatLaws.{number-there, refs-set, ascend-set, ascend-insert, refs-insert, none-here}
use Rattle.ref_counts.proofs.entries.add_one.Goals as goal

-- one more under a key
one-more : (key k n : ℕ) (old : ℕ → ℕ) → n ≡ old key → cond (eqb key k) (n + 1) (old k) ≡ cond (eqb key k) 1 0 + old k
one-more key k n old is = elim (tested key k) as (λ v. cond (eqb key k) (n + 1) (old k) ≡ cond (eqb key k) 1 0 + old k)
    [ inl t ↦ rw t.0 (let same : old key ≡ old k = ap old t.1 in omega (arith, is, same)) | inr t ↦ rw t.0 (omega arith) ]

pub overflow_add-number : goal.overflow_add-number
overflow_add-number c =
    let is : c.index.result.now.1 ≡ refs_in c.args.entries.now.items c.args.key = ap (λ (e : ℕ × ℕ). e.1) c.index.ensures ∙ number-there c.args.entries.now.items c.args.key c.in-Ok.at c.index.result.now (subst (λ (xs : List (ℕ × ℕ)). StandsAt xs c.args.key c.in-Ok.at) c.as_slice.ensures.value c.in-Ok.ensures.there) in
    let small = c.requires.small in
    omega (arith, is, small)

pub returns-in-Ok-clause-ascend : goal.returns-in-Ok-clause-ascend
returns-in-Ok-clause-ascend c = ascend-set c.args.entries.now.items c.args.key c.in-Ok.at (subst (λ (xs : List (ℕ × ℕ)). StandsAt xs c.args.key c.in-Ok.at) c.as_slice.ensures.value c.in-Ok.ensures.there) (c.index.result.now.1 + 1)

pub returns-in-Ok-clause-number : goal.returns-in-Ok-clause-number
returns-in-Ok-clause-number c = λ other.
    let es = c.args.entries.now.items in
    let is : c.index.result.now.1 ≡ refs_in es c.args.key = ap (λ (e : ℕ × ℕ). e.1) c.index.ensures ∙ number-there es c.args.key c.in-Ok.at c.index.result.now (subst (λ (xs : List (ℕ × ℕ)). StandsAt xs c.args.key c.in-Ok.at) c.as_slice.ensures.value c.in-Ok.ensures.there) in
    refs-set es c.args.key c.in-Ok.at (subst (λ (xs : List (ℕ × ℕ)). StandsAt xs c.args.key c.in-Ok.at) c.as_slice.ensures.value c.in-Ok.ensures.there) other (c.index.result.now.1 + 1) ∙ one-more c.args.key other c.index.result.now.1 (λ (k : ℕ). refs_in es k) is

pub returns-in_ok-insert-in-Err-clause-ascend : goal.returns-in_ok-insert-in-Err-clause-ascend
returns-in_ok-insert-in-Err-clause-ascend c = subst (λ (xs : List (ℕ × ℕ)). IsAscending first xs) (sym c.in_ok-insert-in-Err.ensures.items) (ascend-insert c.args.entries.now.items c.args.key c.in-Err.at (subst (λ (xs : List (ℕ × ℕ)). IsMissing xs c.args.key c.in-Err.at) c.as_slice.ensures.value c.in-Err.ensures.missing) 1)

pub returns-in_ok-insert-in-Err-clause-number : goal.returns-in_ok-insert-in-Err-clause-number
returns-in_ok-insert-in-Err-clause-number c = λ other.
    let es = c.args.entries.now.items in
    let missing : IsMissing es c.args.key c.in-Err.at = (subst (λ (xs : List (ℕ × ℕ)). IsMissing xs c.args.key c.in-Err.at) c.as_slice.ensures.value c.in-Err.ensures.missing) in
    let none : 0 ≡ refs_in es c.args.key = sym (ap number_of (none-here es c.args.key c.in-Err.at missing)) in
    ap (λ (xs : List (ℕ × ℕ)). refs_in xs other) c.in_ok-insert-in-Err.ensures.items ∙ refs-insert es c.args.key c.in-Err.at missing other 1 ∙ one-more c.args.key other 0 (λ (k : ℕ). refs_in es k) none
