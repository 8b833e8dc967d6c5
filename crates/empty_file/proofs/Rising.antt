-- Parts by their places all stand, once they are written.
use Rattle.std.proofs.Common.{◌≡◌, inl, ℕ, ◌+◌, ◌≤◌, List, [], ◌∷◌, length, take, drop, arith}
use Rattle.lays_kept.specs.declared.Piece.{Piece}
use Rattle.lays_kept.specs.Kept.{IsClear, HoldsEach}

-- no part begins before the one in front of it ends
abbrev pub Rise : ℕ → List Piece → Type 0
Rise low [] = Unit {0}
Rise low (p ∷ ps) = (low ≤ p.at) × Rise (p.at + length p.bytes) ps

-- each part's bytes stand at its place, and the file reaches to its end
abbrev pub Stand : List ℕ → List Piece → Type 0
Stand file [] = Unit {0}
Stand file (p ∷ ps) = (take (length p.bytes) (drop p.at file) ≡ p.bytes) × (p.at + length p.bytes ≤ length file) × Stand file ps

clear-below : (at n low : ℕ) (ps : List Piece) → at + n ≤ low → Rise low ps → IsClear ps at n
clear-below at n low [] le rise = tt
clear-below at n low (p ∷ ps) le rise = let a = rise.0 in (inl (omega (arith, le, a)), clear-below at n (p.at + length p.bytes) ps (omega (arith, le, a)) rise.1)

pub all-stand : (file : List ℕ) (low : ℕ) (ps : List Piece) → Rise low ps → HoldsEach file ps → Stand file ps
all-stand file low [] rise holds = tt
all-stand file low (p ∷ ps) rise holds =
    (holds.1 (clear-below p.at (length p.bytes) (p.at + length p.bytes) ps (omega arith) rise.1), holds.0, all-stand file (p.at + length p.bytes) ps rise.1 holds.2)
