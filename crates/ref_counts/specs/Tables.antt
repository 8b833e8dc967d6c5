-- Lists of entries by keys that ascend strictly, and the numbers that a table has under keys.
use Rattle.std.specs.Prelude.{◌≡◌, ◌==◌, ◌<◌, ◌≤◌, ℕ, suc, ◌+◌, ◌^◌, if◌then◌else◌, List, [], ◌∷◌, ◌++◌, length, take, drop, Option, None, Some}

-- the keys ascend strictly, from a first on and below an end
abbrev pub Rises : {E : Type 0} → (E → ℕ) → ℕ → ℕ → List E → Type 0
Rises key low high [] = low ≤ high
Rises key low high (e ∷ es) = (low ≤ key e) × Rises key (key e + 1) high es

-- keys of 64 bits ascend strictly
abbrev pub IsAscending : {E : Type 0} → (E → ℕ) → List E → Type 0
IsAscending key es = Rises key 0 (2 ^ 64) es

-- the entry of a key, if there is one
abbrev pub entry_at : {E : Type 0} → (E → ℕ) → ℕ → List E → Option E
entry_at key k [] = None
entry_at key k (e ∷ es) = if key e == k then Some e else entry_at key k es

-- the key of an entry of a table
abbrev pub first : ℕ × ℕ → ℕ
first e = e.0

-- the number of an entry, 0 where there is none
abbrev pub number_of : Option (ℕ × ℕ) → ℕ
number_of None = 0
number_of (Some e) = e.1

-- the number under a key, 0 where there is none
abbrev pub refs_in : List (ℕ × ℕ) → ℕ → ℕ
refs_in entries key = number_of (entry_at first key entries)

-- the key has an entry
abbrev pub HasKey : List (ℕ × ℕ) → ℕ → Type 0
HasKey entries key = (e : ℕ × ℕ) × (entry_at first key entries ≡ Some e)

-- the numbers of both tables are the same, and the second has each key of the first
pub record KeepsKeys (old new : List (ℕ × ℕ)) : Type 0 where
  pub same : (key : ℕ) → refs_in new key ≡ refs_in old key
  pub kept : (key : ℕ) → HasKey old key → HasKey new key

-- ---- places

-- the key's entry stands at this place
pub record StandsAt (entries : List (ℕ × ℕ)) (key at : ℕ) : Type 0 where
  pub number : ℕ
  pub within : at < length entries
  pub split : entries ≡ take at entries ++ (key, number) ∷ drop (suc at) entries
  pub below : Rises first 0 key (take at entries)
  pub above : Rises first (key + 1) (2 ^ 64) (drop (suc at) entries)

-- the key has no entry, and one may be put at this place
pub record IsMissing (entries : List (ℕ × ℕ)) (key at : ℕ) : Type 0 where
  pub within : at ≤ length entries
  pub below : Rises first 0 key (take at entries)
  pub above : Rises first (key + 1) (2 ^ 64) (drop at entries)
