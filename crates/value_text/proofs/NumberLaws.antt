-- What the parse of digits gives.
use Rattle.std.proofs.Common.{◌≡◌, ◌^◌, ℕ, ◌<◌, ◌==◌, ◌&&◌, Bool, true, false, List, [], ◌∷◌, length, Option, Some, None, Result, Ok, Err, IsTrue, refl, ap, sym, arith, rules, inl, inr}
use Rattle.std.specs.Prelude.{nat_lt}
use Rattle.std.specs.Option.{option_map}
use Rattle.std.specs.Result.{OkIff, result_ok}
use Rattle.std.specs.List.{list_all}
use Rattle.std.specs.Char.{is_ascii_digit}
use Rattle.std.specs.Str.Parse.{digits_value, starts_with_minus, ParsesUnsigned}
use Rattle.std.proofs.lemmas.Bool.{lt-ltb, ltb-true, ne_eqb, cases_Bool, and_parts}
use Rattle.std.proofs.lemmas.Str.Parse.{IsDigitsTest, IsNumeralModel, numerals_by_value, parse_digits}
use Rattle.value_text.specs.Numbers.{magnitude}

tells : IsDigitsTest (λ ds. list_all is_ascii_digit ds ≡ true)
tells = search rules

own : IsNumeralModel (λ ds. list_all is_ascii_digit ds ≡ true) (digits_value 10)
own = numerals_by_value (λ ds. list_all is_ascii_digit ds ≡ true) tells

from-answer : {E : Type 0} (bs : List ℕ) (r : Result ℕ E) → OkIff r ((0 < length bs) × (digits_value 10 bs < 2 ^ 64)) (digits_value 10 bs) → list_all is_ascii_digit bs ≡ true → result_ok r ≡ magnitude bs
unfolding magnitude
from-answer bs (Ok x) h all = rw (lt-ltb 0 (length bs) h.0.0, all, lt-ltb (digits_value 10 bs) (2 ^ 64) h.0.1) (ap Some h.1)
from-answer bs (Err e) h all =
    elim (cases_Bool (nat_lt 0 (length bs))) [
      | inr f ↦ rw f refl
      | inl t ↦ rw (t, all) (elim (cases_Bool (nat_lt (digits_value 10 bs) (2 ^ 64))) [
        | inr f ↦ rw f refl
        | inl t1 ↦ absurd (h (ltb-true 0 (length bs) t, ltb-true (digits_value 10 bs) (2 ^ 64) t1))
      ])
    ]

-- what `parse` gives of digits is their number, where it is small enough
pub from-parse : {E : Type 0} (bs : List ℕ) (r : Result ℕ E) → ParsesUnsigned 64 10 bs r → list_all is_ascii_digit bs ≡ true → result_ok r ≡ magnitude bs
from-parse bs r h all = from-answer bs r (parse_digits own 64 bs r h all) all

-- a text that doesn't begin with a minus
pub no-minus : (bs : List ℕ) → ((rest : List ℕ) → bs ≡ 45 ∷ rest → ⊥) → starts_with_minus bs ≡ false
no-minus [] h = refl
no-minus (x ∷ xs) h = ne_eqb x 45 (λ e. h xs (ap (λ y. y ∷ xs) e))
