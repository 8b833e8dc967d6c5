-- A record of fixed fields: numbers at places among bytes that stay.
use Rattle.std.specs.Prelude.{ℕ, ◌≡◌, ◌+◌, ◌≤◌, ◌<◌, ◌^◌, ◌==◌, ◌&&◌, nat_lt, nat_le, if◌then◌else◌, Bool, true, false, List, [], ◌∷◌, ◌||◌}
use Rattle.byteorder.specs.Endian.{little_bytes}
use Rattle.pst_base.specs.Fields.{replaced}

-- a number in so many bytes from a place on
pub record Cell : Type 0 where
  pub at : ℕ
  pub size : ℕ
  pub value : ℕ

-- the bytes with these cells in them; the first of the list is written last
unfoldable pub written : List Cell → List ℕ → List ℕ
written [] b = b
written (c ∷ cs) b = replaced c.at (little_bytes c.size c.value) (written cs b)

-- the n bytes from a place on and a cell have no byte in common
abbrev pub is_beside : ℕ → ℕ → Cell → Bool
is_beside n at c = nat_le (at + n) c.at || nat_le (c.at + c.size) at

-- no cell has only a part of the n bytes from a place on: the last that is written there, if any, is just those
unfoldable pub is_apart : ℕ → ℕ → List Cell → Bool
is_apart n at [] = true
is_apart n at (c ∷ cs) = (c.at == at && c.size == n) || (is_beside n at c && is_apart n at cs)

-- the value of the cell that is just these n bytes, or d where there is none
unfoldable pub value_at : ℕ → ℕ → List Cell → ℕ → ℕ
value_at n at [] d = d
value_at n at (c ∷ cs) d = if c.at == at && c.size == n then c.value else value_at n at cs d

-- the byte at a place belongs to a cell
unfoldable pub is_covered : ℕ → List Cell → Bool
is_covered i [] = false
is_covered i (c ∷ cs) = (nat_le c.at i && nat_lt i (c.at + c.size)) || is_covered i cs

-- each cell lies among len bytes, and its value fits it
abbrev pub Fit : ℕ → List Cell → Type 0
Fit len [] = Unit {0}
Fit len (c ∷ cs) = (c.at + c.size ≤ len) × (c.value < 256 ^ c.size) × Fit len cs

-- each value is 0
abbrev pub AllZero : List Cell → Type 0
AllZero [] = Unit {0}
AllZero (c ∷ cs) = (c.value ≡ 0) × AllZero cs
