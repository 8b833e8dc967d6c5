-- Pieces that stand beside each other.
use Rattle.std.specs.Prelude.{◌≡◌, ℕ, List, [], ◌∷◌, length, take, drop}
use Rattle.pst_base.specs.declared.places.Place.{Place}
use Rattle.lays_kept.specs.declared.Piece.{Piece}
use Rattle.lays_kept.specs.Kept.{IsClear}

-- where a piece is written
abbrev pub piece_place : Piece → Place
piece_place p = record { ib = p.at; len = length p.bytes }

-- no piece meets one behind it
abbrev pub AreApart : List Piece → Type 0
AreApart [] = Unit {0}
AreApart (p ∷ ps) = IsClear ps p.at (length p.bytes) × AreApart ps

-- each piece's bytes stand at its place
abbrev pub EachStands : List ℕ → List Piece → Type 0
EachStands file [] = Unit {0}
EachStands file (p ∷ ps) = (take (length p.bytes) (drop p.at file) ≡ p.bytes) × EachStands file ps
