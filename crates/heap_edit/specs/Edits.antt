-- Data blocks of which some are put anew at their positions.
use Rattle.std.specs.Prelude.{ℕ, zero, suc, ◌≡◌, ◌+◌, ◌<◌, ◌≤◌, ◌==◌, if◌then◌else◌, List, [], ◌∷◌, drop, Option, None, Some, IsSome}

-- blocks by their positions, the first of each counts
abbrev pub Edits : Type 0
Edits = List (ℕ × List ℕ)

-- the block at a position, if one is put there
abbrev pub put_at : Edits → ℕ → Option (List ℕ)
put_at [] p = None
put_at (e ∷ es) p = if e.0 == p then Some e.1 else put_at es p

-- the first block, or no bytes
abbrev pub first : List (List ℕ) → List ℕ
first [] = []
first (b ∷ bs) = b

-- what is put, or else what is there
abbrev pub or_old : Option (List ℕ) → List ℕ → List ℕ
or_old None old = old
or_old (Some b) old = b

-- so many blocks from a position on: those that are put, and else those that are there; a block that is neither has no bytes
abbrev pub edited_from : ℕ → Edits → ℕ → List (List ℕ) → List (List ℕ)
edited_from p es zero bs = []
edited_from p es (suc n) bs = or_old (put_at es p) (first bs) ∷ edited_from (p + 1) es n (drop 1 bs)

-- the blocks after edits, n of them
abbrev pub edited : Edits → ℕ → List (List ℕ) → List (List ℕ)
edited es n bs = edited_from 0 es n bs

-- one more block is put, in place of an earlier one at its position, and nothing else
abbrev pub PutsOne : ℕ → List ℕ → Edits → Edits → Type 0
PutsOne p b old new = (q : ℕ) → put_at new q ≡ (if q == p then Some b else put_at old q)

-- of what had so many blocks none is left out, each that is new is put, and none is put behind the last
pub record IsWhole (was : ℕ) (es : Edits) (n : ℕ) : Type 0 where
  pub all : was ≤ n
  pub new : (p : ℕ) → was ≤ p → p < n → IsSome (put_at es p)
  pub within : (p : ℕ) → IsSome (put_at es p) → p < n

-- a list with x in place of the element at a position, or behind all
abbrev pub with_at : {A : Type 0} → List A → ℕ → A → List A
with_at [] i x = x ∷ []
with_at (y ∷ ys) zero x = x ∷ ys
with_at (y ∷ ys) (suc i) x = y ∷ with_at ys i x
