-- UTF-16 units as bytes.
use Rattle.std.specs.Prelude.{ℕ, ◌+◌, ◌*◌, ◌/◌, ◌%◌, List, [], ◌∷◌}
use Rattle.std.specs.List.{flat_map}

-- the two bytes of a unit, the low one first
abbrev pub unit_bytes : ℕ → List ℕ
unit_bytes u = u % 256 ∷ u / 256 ∷ []

-- the bytes of units, one after the other
abbrev pub units_bytes : List ℕ → List ℕ
units_bytes us = flat_map unit_bytes us

-- the units that bytes hold; a last odd byte is left out
abbrev pub units_in : List ℕ → List ℕ
units_in [] = []
units_in (a ∷ []) = []
units_in (a ∷ b ∷ bs) = (a + 256 * b) ∷ units_in bs
