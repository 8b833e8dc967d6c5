-- Existence bits in bytes, the first in the highest bit.
use Rattle.std.specs.Prelude.{ℕ, zero, suc, ◌+◌, ◌*◌, Bool, false, List, [], ◌∷◌, get_or, if◌then◌else◌}

-- a bit as a number
abbrev pub digit : Bool → ℕ
digit b = if b then 1 else 0

-- the byte of eight bits from a place on
abbrev pub octet : ℕ → List Bool → ℕ
octet at m =
    digit (get_or m at false) * 128 + digit (get_or m (at + 1) false) * 64 + digit (get_or m (at + 2) false) * 32 + digit (get_or m (at + 3) false) * 16
    + digit (get_or m (at + 4) false) * 8 + digit (get_or m (at + 5) false) * 4 + digit (get_or m (at + 6) false) * 2 + digit (get_or m (at + 7) false)

-- so many bytes of bits, from a place on
abbrev pub bits : ℕ → ℕ → List Bool → List ℕ
bits zero at m = []
bits (suc n) at m = octet at m ∷ bits n (at + 8) m
