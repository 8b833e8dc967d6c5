-- What stays of a file when other parts of it are written.
use Rattle.std.specs.Prelude.{◌≡◌, ◌⊎◌, ◌≤◌, ℕ, ◌+◌, List, [], ◌∷◌, length, take, drop}
use Rattle.pst_base.specs.declared.places.Place.{Place}
use Rattle.lays_kept.specs.declared.Piece.{Piece}

-- each place of the list has P
abbrev pub Each : (Place → Type 0) → List Place → Type 0
Each P [] = Unit {0}
Each P (p ∷ ps) = P p × Each P ps

-- the bytes at a place are the same in both
abbrev pub SameAt : List ℕ → List ℕ → Place → Type 0
SameAt old new p = take p.len (drop p.ib new) ≡ take p.len (drop p.ib old)

-- ---- what is written

-- the pieces and a span have no byte in common
abbrev pub IsClear : List Piece → ℕ → ℕ → Type 0
IsClear [] at n = Unit {0}
IsClear (p ∷ ps) at n = ((at + n ≤ p.at) ⊎ (p.at + length p.bytes ≤ at)) × IsClear ps at n

-- After all writes of pieces: the file reaches to the end of each, and each that no later piece meets stands at its place.
abbrev pub HoldsEach : List ℕ → List Piece → Type 0
HoldsEach file [] = Unit {0}
HoldsEach file (p ∷ ps) =
    (p.at + length p.bytes ≤ length file) × (IsClear ps p.at (length p.bytes) → take (length p.bytes) (drop p.at file) ≡ p.bytes) × HoldsEach file ps

-- after writes of these pieces, of which each may be cut short: all that meets none of them is as before
pub record Scattered (pieces : List Piece) (old new : List ℕ) : Type 0 where
  pub longer : length old ≤ length new
  pub same : (at n : ℕ) → at + n ≤ length old → IsClear pieces at n → take n (drop at new) ≡ take n (drop at old)
