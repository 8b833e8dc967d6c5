-- Records of a key and an entry, in bytes and in order.
use Rattle.std.specs.Prelude.{ℕ, zero, suc, ◌+◌, ◌^◌, ◌/◌, ◌%◌, ◌==◌, ◌&&◌, nat_lt, nat_le, if◌then◌else◌, Bool, true, List, [], ◌∷◌, length, take, drop, Option, Some, None}
use Rattle.std.specs.Option.{option_and_then}
use Rattle.byteorder.specs.Endian.{little_number}

-- the record that bytes are, whose key has k bytes
abbrev pub record_of : ℕ → List ℕ → ℕ × List ℕ
record_of k x = (little_number k x, drop k x)

-- the first n records of bytes, with keys of k and entries of e bytes
abbrev pub records : ℕ → ℕ → ℕ → List ℕ → List (ℕ × List ℕ)
records k e zero x = []
records k e (suc n) x = record_of k (take (k + e) x) ∷ records k e n (drop (k + e) x)

-- the records of bytes that are a whole number of them
unfoldable pub whole : ℕ → ℕ → List ℕ → Option (List (ℕ × List ℕ))
whole k e x = if length x % (k + e) == 0 then Some (records k e (length x / (k + e)) x) else None

-- the keys ascend strictly, from low on and below high
abbrev pub within : ℕ → ℕ → List (ℕ × List ℕ) → Bool
within low high [] = true
within low high (r ∷ rs) = nat_le low r.0 && (nat_lt r.0 high && within (suc r.0) high rs)

-- the entry with a key, if there is one
abbrev pub entry_of : ℕ → List (ℕ × List ℕ) → Option (List ℕ)
entry_of key [] = None
entry_of key (r ∷ rs) = if r.0 == key then Some r.1 else entry_of key rs

-- the records of bytes, where they are a whole number and their keys ascend so
unfoldable pub ordered : ℕ → ℕ → ℕ → ℕ → List ℕ → Option (List (ℕ × List ℕ))
ordered k e low high x = option_and_then (λ (rs : List (ℕ × List ℕ)). if within low high rs then Some rs else None) (whole k e x)

-- the key of the pair of key and heap id at the front of bytes, or what is above each key where there is none
abbrev pub front : ℕ → List ℕ → ℕ
front k x = if nat_lt (length x) (k + 4) then 2 ^ 32 else little_number k (take (k + 4) x)
