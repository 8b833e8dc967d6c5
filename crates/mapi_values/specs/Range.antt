-- Numbers that are UTF-16 units.
use Rattle.std.specs.Prelude.{ℕ, Bool, true, ◌&&◌, List, [], ◌∷◌, nat_lt}

-- each number is below 2^16
abbrev pub all_units : List ℕ → Bool
all_units [] = true
all_units (u ∷ us) = nat_lt u 0x1_0000 && all_units us
