-- Records of 8 bytes: where a key stands among them.
use Rattle.std.specs.Prelude.{ℕ, ◌≡◌, ◌<◌, ◌≤◌, ◌⊎◌, ◌/◌, ◌+◌, List, [], ◌∷◌, ◌++◌, length, Option, Some, None}
use Rattle.byteorder.specs.Endian.{little_number}
use Rattle.bth_tree.specs.Records.{records}
use Rattle.index_edit.specs.declared.bytes.Place.{Place}

-- the records of bytes, 8 bytes each
unfoldable pub rows : List ℕ → List (ℕ × List ℕ)
rows x = records 4 4 (length x / 8) x

-- a record's key
abbrev pub key_of : ℕ × List ℕ → ℕ
key_of r = r.0

-- an entry as a number
abbrev pub as_number : Option (List ℕ) → Option ℕ
as_number None = None
as_number (Some x) = Some (little_number 4 x)

-- each key is below this one
abbrev pub AreBelow : ℕ → List (ℕ × List ℕ) → Type 0
AreBelow key [] = Unit {0}
AreBelow key (r ∷ rs) = (r.0 < key) × AreBelow key rs

-- the first key, if there is one, is above this one
abbrev pub BeginsAbove : ℕ → List (ℕ × List ℕ) → Type 0
BeginsAbove key [] = Unit {0}
BeginsAbove key (r ∷ rs) = key < r.0

-- the record with the key, or none where the first of the others is above it
abbrev pub IsHere : ℕ → List (ℕ × List ℕ) → List (ℕ × List ℕ) → Type 0
IsHere key [] after = BeginsAbove key after
IsHere key (r ∷ []) after = r.0 ≡ key
IsHere key (r ∷ (s ∷ rs)) after = ⊥

-- the records before a key, the one with it, and those behind it
pub record IsSpan (key : ℕ) (rs : List (ℕ × List ℕ)) (from to : ℕ) : Type 0 where
  pub before : List (ℕ × List ℕ)
  pub here : List (ℕ × List ℕ)
  pub after : List (ℕ × List ℕ)
  pub parts : rs ≡ before ++ (here ++ after)
  pub starts : length before ≡ from
  pub ends : from + length here ≡ to
  pub below : AreBelow key before
  pub is : IsHere key here after

-- the pair at a place has a child, and this key belongs below it: the next pair's key is above it, and its own isn't, unless it is the first
pub record IsPlaceOf (key : ℕ) (ps : List (ℕ × List ℕ)) (index child : ℕ) : Type 0 where
  pub before : List (ℕ × List ℕ)
  pub pair : ℕ × List ℕ
  pub after : List (ℕ × List ℕ)
  pub parts : ps ≡ before ++ pair ∷ after
  pub place : length before ≡ index
  pub names : little_number 4 pair.1 ≡ child
  pub low : (before ≡ []) ⊎ (pair.0 ≤ key)
  pub next : BeginsAbove key after

-- the same where there may be no pair
abbrev pub IsPlace : ℕ → List (ℕ × List ℕ) → Option Place → Type 0
IsPlace key ps None = ps ≡ []
IsPlace key ps (Some place) = IsPlaceOf key ps place.index place.child
