-- How long the values are that the store reads and makes.
use Rattle.std.proofs.Common.{◌≡◌, ℕ, List, None, IsTrue, refl, sym}
use Rattle.std.proofs.lemmas.Bool.{eqb-true}
use Rattle.pst_base.specs.Fields.{number_at}
use Rattle.mapi_values.specs.Values.{Val, fits, in_field}
use Rattle.mail_tree.specs.Values.{bytes_of, number_of}

-- a number has 4 bytes
pub number-fits : (n : ℕ) → n ≡ 4 → IsTrue (fits 0x0003 n)
unfolding fits in_field
number-fits n e = rw e refl

pub number-length : (n : ℕ) → IsTrue (fits 0x0003 n) → n ≡ 4
unfolding fits in_field
number-length n f = sym (eqb-true 4 n f)

-- a time has 8
pub time-fits : (n : ℕ) → n ≡ 8 → IsTrue (fits 0x0040 n)
unfolding fits in_field
time-fits n e = rw e refl

-- a truth value has one
pub truth-fits : (n : ℕ) → n ≡ 1 → IsTrue (fits 0x000B n)
unfolding fits in_field
truth-fits n e = rw e refl

-- a number that isn't there is 0
pub no-number : (id : ℕ) (props : List Val) → None ≡ bytes_of id 0x0003 props → 0 ≡ number_of id props
unfolding number_at
no-number id props e = rw (← e) refl
