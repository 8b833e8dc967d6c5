-- The fixed pages of a copy.
use Rattle.std.specs.Prelude.{◌≡◌, ℕ, ◌+◌, ◌*◌, Bool, List, [], ◌∷◌, length, take}
use Rattle.alloc_map.specs.Ends.{region_end}
use Rattle.alloc_map.specs.Maps.{IsMapPage}
use Rattle.alloc_map.specs.Standing.{fixed_slots}
use Rattle.lays_kept.specs.declared.Piece.{Piece}
use Rattle.copy_pieces.specs.Writes.{Adds}

-- a piece is the fixed pages of a region, of which the first is the map page of these used slots
pub record IsFixed (used : List Bool) (r : ℕ) (p : Piece) : Type 0 where
  pub place : p.at ≡ region_end r
  pub size : length p.bytes ≡ 64 * fixed_slots r
  pub maps : IsMapPage used r (take 512 p.bytes)

-- those of the regions from one on
abbrev pub AreFixed : List Bool → ℕ → List Piece → Type 0
AreFixed used r [] = Unit {0}
AreFixed used r (p ∷ pieces) = IsFixed used r p × AreFixed used (r + 1) pieces

-- the copy has those of the first regions besides
pub record AddsFixed (used : List Bool) (n : ℕ) (old new : List ℕ) : Type 0 where
  pub pieces : List Piece
  pub count : length pieces ≡ n
  pub are : AreFixed used 0 pieces
  pub adds : Adds old new pieces
