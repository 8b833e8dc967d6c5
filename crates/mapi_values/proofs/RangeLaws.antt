-- Numbers that are UTF-16 units.
use Rattle.std.proofs.Common.{ℕ, ◌<◌, List, [], ◌∷◌, get_or, length, refl, arith}
use Rattle.std.proofs.lemmas.Bool.{lt-ltb, and_from}
use Rattle.std.specs.Prelude.{IsTrue, suc}
use Rattle.mapi_values.specs.Range.{all_units}

-- a list whose numbers are each below 2^16
pub all_units-from_each : (us : List ℕ) → ((k d : ℕ) → k < length us → get_or us k d < 0x1_0000) → IsTrue (all_units us)
all_units-from_each [] each = refl
all_units-from_each (u ∷ us) each =
    and_from _ _ (lt-ltb u 0x1_0000 (each 0 0 (omega arith))) (all_units-from_each us (λ k d h. each (suc k) d (omega arith)))
