-- The characters of units, one at a time.
use Rattle.std.proofs.Common.{◌≡◌, ℕ, ◌-◌, ◌<◌, Bool, List, [], ◌∷◌, ◌++◌, get_or, length, drop, take, refl, inl, inr, arith, Some, None, append_assoc}
use Rattle.std.proofs.lemmas.Bool.{cases_Bool}
use Rattle.std.proofs.lemmas.List.{take_rest}
use Rattle.std.specs.Prelude.{◌&&◌}
use Rattle.std.specs.Char.Utf16.{is_high_surrogate, is_low_surrogate}
use Rattle.mapi_values.specs.declared.characters.Character.{Character}
use Rattle.mapi_values.specs.declared.characters.Character.TheVariants.{Scalar}
use Rattle.mapi_values.specs.Characters.{pair_of, leading_pair, lone, characters, folded_character, folded}

-- a pair at the front is the first character
pub characters-pair : (us : List ℕ) (c : ℕ) → leading_pair us ≡ Some c → characters us ≡ Scalar c ∷ characters (drop 2 us)
unfolding leading_pair pair_of characters
characters-pair [] c e = cc
characters-pair (u ∷ []) c e = cc
characters-pair (u ∷ v ∷ us) c e =
    elim (cases_Bool (is_high_surrogate u && is_low_surrogate v)) [
      | inl t ↦ rw t (let e' = rw t at e in cc)
      | inr f ↦ absurd (let e' = rw f at e in cc)
    ]

-- without one, the first unit alone is the first character
pub characters-lone : (us : List ℕ) → 0 < length us → leading_pair us ≡ None
    → characters us ≡ lone (get_or us 0 0) ∷ characters (drop 1 us)
unfolding leading_pair pair_of characters
characters-lone [] h e = absurd (omega arith)
characters-lone (u ∷ []) h e = refl
characters-lone (u ∷ v ∷ us) h e =
    elim (cases_Bool (is_high_surrogate u && is_low_surrogate v)) [
      | inl t ↦ absurd (let e' = rw t at e in cc)
      | inr f ↦ rw f refl
    ]

-- the same, of what a slice past the front gives
pub characters-after_pair : (us : List ℕ) (c : ℕ) → leading_pair us ≡ Some c
    → characters us ≡ Scalar c ∷ characters (take (length us - 2) (drop 2 us))
characters-after_pair us c e = rw (take_rest us 2) (characters-pair us c e)

pub characters-after_lone : (us : List ℕ) (ch : Character) → 0 < length us → leading_pair us ≡ None → ch ≡ lone (get_or us 0 0)
    → characters us ≡ ch ∷ characters (take (length us - 1) (drop 1 us))
characters-after_lone us ch h e is = rw (take_rest us 1, is) (characters-lone us h e)

-- one more character folded, and none left
pub folded-more : (strip : Bool) (done next us rest : List ℕ) (ch : Character) → characters us ≡ ch ∷ characters rest
    → next ≡ done ++ folded_character strip ch → next ++ folded strip rest ≡ done ++ folded strip us
unfolding folded
folded-more strip done next us rest ch e is = rw (is, e) (append_assoc done _ _)

pub folded-nil : (strip : Bool) → folded strip [] ≡ []
unfolding folded characters
folded-nil strip = refl
