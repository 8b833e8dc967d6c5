-- A tree page: a level and a list of entries, and how 496 bytes read as one.
use Rattle.std.specs.Prelude.{ℕ, zero, suc, ◌*◌, ◌/◌, ◌<◌, ◌≤◌, ◌==◌, ◌&&◌, nat_lt, nat_le, not, if◌then◌else◌, Bool, true, List, [], ◌∷◌, ◌++◌, map, take, drop, length, replicate, slice_index, Result, Ok, Err, Option, MatchOption}
use Rattle.byteorder.specs.Endian.{little_bytes}
use Rattle.pst_base.specs.Fields.{number_at, replaced}
use Rattle.pst_base.specs.declared.stops.PageFault.{PageFault}
use Rattle.pst_base.specs.declared.stops.PageFault.TheVariants.{Count, Level, Key}

-- a page: 0 is the level of a leaf, and each entry is its bytes
pub record Page : Type 0 where
  pub level : ℕ
  pub entries : List (List ℕ)

-- the first n pieces of so many bytes each
abbrev pub pieces : ℕ → ℕ → List ℕ → List (List ℕ)
pieces size zero b = []
pieces size (suc n) b = take size b ∷ pieces size n (drop size b)

-- how many bytes an entry has: that of a leaf depends on the tree
abbrev pub size_at : ℕ → ℕ → ℕ
size_at leaf level = if level == 0 then leaf else 24

-- the key of an entry, of which the tree's rule makes the key of the number in its first 8 bytes
abbrev pub key_in : (ℕ → ℕ) → List ℕ → ℕ
key_in rule entry = rule (number_at 8 0 entry)

-- the entries' keys
abbrev pub keys : (ℕ → ℕ) → List (List ℕ) → List ℕ
keys rule entries = map (key_in rule) entries

-- each number is above the one before it, and the first above low
abbrev pub rise_above : ℕ → List ℕ → Bool
rise_above low [] = true
rise_above low (x ∷ xs) = nat_lt low x && rise_above x xs

-- the numbers ascend strictly
abbrev pub ascend : List ℕ → Bool
ascend [] = true
ascend (x ∷ xs) = rise_above x xs

-- the entry size is that of the level, and the entries end before byte 488
unfoldable pub is_counted : ℕ → List ℕ → Bool
is_counted size b = (number_at 1 490 b == size) && nat_le (number_at 1 488 b * size) 488

-- a page of a level that is known, with entries of this size: the first fault in the order Count, Level, Key, or the page
unfoldable pub page_with : (ℕ → ℕ) → ℕ → ℕ → List ℕ → Result Page PageFault
page_with rule size level b =
    if not (is_counted size b) then Err Count
    else (if nat_lt 7 level then Err Level
    else (if not (ascend (keys rule (pieces size (number_at 1 488 b) b))) then Err Key
    else Ok (record { level = level; entries = pieces size (number_at 1 488 b) b })))

-- the page that bytes are, in a tree whose leaves have entries of this size and whose keys have this rule
unfoldable pub page_of : (ℕ → ℕ) → ℕ → List ℕ → Result Page PageFault
page_of rule leaf b = page_with rule (size_at leaf (number_at 1 491 b)) (number_at 1 491 b) b

-- ---- writing

-- lists one behind the other
abbrev pub joined : List (List ℕ) → List ℕ
joined [] = []
joined (x ∷ xs) = x ++ joined xs

-- a page's bytes with what it says of itself in them
unfoldable pub with_head : ℕ → ℕ → ℕ → List ℕ → List ℕ
with_head count size level b =
    replaced 491 (little_bytes 1 level) (replaced 490 (little_bytes 1 size) (replaced 489 (little_bytes 1 (488 / size)) (replaced 488 (little_bytes 1 count) b)))

-- a page's bytes: the entries, zeros, and what it says of itself
abbrev pub page_bytes : ℕ → ℕ → List (List ℕ) → List ℕ
page_bytes size level entries = replaced 0 (joined entries) (with_head (length entries) size level (replicate 496 0))

-- ---- finding

-- the place of the last of some ascending keys that isn't above a key
pub record IsLast (ks : List ℕ) (key place : ℕ) : Type 0 where
  pub within : place < length ks
  pub reached : slice_index ks place ≤ key
  pub above : (next : ℕ) → place < next → next < length ks → key < slice_index ks next

-- the last of the keys that isn't above a key, or none, where all are above
abbrev pub FindsLast : List ℕ → ℕ → Option ℕ → Type 0
FindsLast ks key found = MatchOption found ((place : ℕ) → place < length ks → key < slice_index ks place) (λ place. IsLast ks key place)
