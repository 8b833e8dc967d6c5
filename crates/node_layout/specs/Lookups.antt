-- What edits make of a list of entries, key by key.
use Rattle.std.specs.Prelude.{◌≡◌, ◌==◌, ℕ, ◌+◌, Bool, true, if◌then◌else◌, List, [], ◌∷◌, Option, None, Some}

-- ---- entries and edits by their keys

-- the edit of a key, if there is one
abbrev pub edit_at : {E : Type 0} → ℕ → List (ℕ × Option E) → Option (Option E)
edit_at k [] = None
edit_at k (d ∷ ds) = if d.0 == k then Some d.1 else edit_at k ds

-- what an edit leaves of what was there
abbrev pub or_old : {E : Type 0} → Option (Option E) → Option E → Option E
or_old None old = old
or_old (Some new) old = new

-- ---- all of them

-- each entry has P
abbrev pub Each : {E : Type 0} → (E → Type 0) → List E → Type 0
Each P [] = Unit {0}
Each P (e ∷ es) = P e × Each P es

-- each entry that is put has P
abbrev pub IsPut : {E : Type 0} → (E → Type 0) → Option E → Type 0
IsPut P None = Unit {0}
IsPut P (Some e) = P e

-- the same of all edits
abbrev pub EachPut : {E : Type 0} → (E → Type 0) → List (ℕ × Option E) → Type 0
EachPut P [] = Unit {0}
EachPut P (d ∷ ds) = IsPut P d.1 × EachPut P ds

-- ---- sums over entries

-- the sum of a number of each entry
abbrev pub sum_of : {E : Type 0} → (E → ℕ) → List E → ℕ
sum_of f [] = 0
sum_of f (e ∷ es) = f e + sum_of f es

-- ---- keys

-- each key is one of these
abbrev pub AllIn : (ℕ → Bool) → List ℕ → Type 0
AllIn some [] = Unit {0}
AllIn some (k ∷ ks) = (some k ≡ true) × AllIn some ks
