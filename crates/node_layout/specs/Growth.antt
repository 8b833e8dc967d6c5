-- How a file grows by whole regions.
use Rattle.std.specs.Prelude.{◌≡◌, ◌≤◌, ◌<◌, ◌⊎◌, ℕ, ◌+◌, ◌-◌, ◌*◌, List, [], ◌∷◌, length}
use Rattle.lays_kept.specs.declared.Piece.{Piece}

-- where so many regions end
abbrev pub region_end : ℕ → ℕ
region_end n = 17408 + 253952 * n

-- A piece that makes a file of eof bytes longer by a region, or up to its end: the last byte of one that ends past eof, or fixed pages of one that begins at or past it.
pub record Grows (eof : ℕ) (p : Piece) : Type 0 where
  pub region : ℕ
  pub past : eof < region_end (region + 1)
  pub what : ((p.at ≡ region_end (region + 1) - 1) × (length p.bytes ≡ 1)) ⊎ ((eof ≤ region_end region) × (region_end region ≤ p.at) × (p.at + length p.bytes ≤ region_end region + 1536))

-- each piece does
abbrev pub AllGrow : ℕ → List Piece → Type 0
AllGrow eof [] = Unit {0}
AllGrow eof (p ∷ ps) = Grows eof p × AllGrow eof ps

-- some piece ends where the new file is to end
abbrev pub EndsAt : ℕ → List Piece → Type 0
EndsAt eof [] = ⊥
EndsAt eof (p ∷ ps) = (p.at + length p.bytes ≡ eof) ⊎ EndsAt eof ps
