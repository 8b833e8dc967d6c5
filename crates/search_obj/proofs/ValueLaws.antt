-- How long the values of a criteria object are.
use Rattle.std.proofs.Common.{◌≡◌, ℕ, ◌^◌, ◌<◌, IsTrue, length, refl, sym}
use Rattle.std.proofs.lemmas.Bool.{eqb-true, lt-ltb, ltb-true}
use Rattle.mapi_values.specs.Values.{fits, in_field}
use Rattle.search_obj.specs.declared.criteria.Version.{Version}
use Rattle.search_obj.specs.declared.criteria.Version.TheVariants.{First, Second}
use Rattle.search_obj.specs.Objects.{mark}

-- a number has 4 bytes
pub number_length : (n : ℕ) → IsTrue (fits 3 n) → n ≡ 4
unfolding fits in_field
number_length n f = sym (eqb-true 4 n f)

pub number_fits : (n : ℕ) → n ≡ 4 → IsTrue (fits 3 n)
unfolding fits in_field
number_fits n e = rw e refl

-- a binary value is shorter than 2^32 bytes
pub binary_short : (n : ℕ) → IsTrue (fits 258 n) → n < 2 ^ 32
unfolding fits in_field
binary_short n f = ltb-true n (2 ^ 32) f

pub binary_fits : (n : ℕ) → n < 2 ^ 32 → IsTrue (fits 258 n)
unfolding fits in_field
binary_fits n h = lt-ltb n (2 ^ 32) h

-- a mark may be the value of a text
pub mark_fits : (v : Version) → IsTrue (fits 31 (length (mark v)))
unfolding fits in_field
mark_fits First = refl
mark_fits Second = refl
