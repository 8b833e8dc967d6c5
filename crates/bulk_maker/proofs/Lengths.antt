-- How long the texts of a large input are.
use Rattle.std.proofs.Common.{◌≡◌, ℕ, ◌+◌, ◌*◌, ◌%◌, ◌==◌, ◌<◌, ◌≤◌, ◌^◌, ◌++◌, List, [], ◌∷◌, length, Bool, true, false, IsTrue, if◌then◌else◌, refl, arith}
use Rattle.std.specs.Prelude.{codes}
use Rattle.std.specs.Fmt.{decimal}
use Rattle.std.proofs.lemmas.Fmt.{length-decimal-le}
use Rattle.std.proofs.lemmas.List.{length-append}
use Rattle.mapi_values.specs.Values.{fits, in_field}
use Rattle.value_text.specs.UnitBytes.{units_bytes}
use Rattle.bulk_maker.specs.Bulk.{numbered, subject}

spaced_length : (word digits : List ℕ) → length digits ≤ 10 → length ((word ++ (32 ∷ [])) ++ digits) ≤ length word + 11
spaced_length word digits few = rw (length-append (word ++ (32 ∷ [])) digits, length-append word (32 ∷ [])) (omega (arith, few))

numbered_length : (word : List ℕ) (n : ℕ) → n < 2 ^ 32 → length (numbered word n) ≤ length word + 11
numbered_length word n small = spaced_length word (decimal n) (length-decimal-le 10 n (omega arith) (omega (arith, small)) (omega (arith, small)))

-- a subject is short
pub subject_short : (seed i : ℕ) (units : List ℕ) → i < 2 ^ 32 → units ≡ subject seed i → length units < 2 ^ 31
subject_short seed i units small is = rw is (go ((seed + i) % 3 == 0))
  where
    go : (b : Bool) → length (numbered (if b then codes "invoice" else codes "letter") i) < 2 ^ 31
    go true = let h = numbered_length (codes "invoice") i small in omega (arith, h)
    go false = let h = numbered_length (codes "letter") i small in omega (arith, h)

bytes_length : (us : List ℕ) → length (units_bytes us) ≡ 2 * length us
bytes_length [] = refl
bytes_length (u ∷ us) = let h = bytes_length us in omega (arith, h)

-- a text of less than 2^31 units can be a value
pub text_fits : (us bytes : List ℕ) → length us < 2 ^ 31 → bytes ≡ units_bytes us → IsTrue (fits 31 (length bytes))
unfolding fits in_field
text_fits us bytes small is = rw (is, bytes_length us) (grind (arith, small))
