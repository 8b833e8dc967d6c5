-- What edits make of a list of entries whose keys ascend.
use Rattle.std.specs.Prelude.{◌≡◌, ℕ, ◌+◌, ◌-◌, ◌<◌, ◌≤◌, ◌==◌, nat_lt, if◌then◌else◌, List, [], ◌∷◌, ◌++◌, Option, Some, None}

-- the entries below a key, and those above it
abbrev pub under : {E : Type 0} → (E → ℕ) → ℕ → List E → List E
under key k [] = []
under key k (e ∷ es) = if nat_lt (key e) k then e ∷ under key k es else under key k es

abbrev pub over : {E : Type 0} → (E → ℕ) → ℕ → List E → List E
over key k [] = []
over key k (e ∷ es) = if nat_lt k (key e) then e ∷ over key k es else over key k es

-- an entry that may be there
abbrev pub given : {E : Type 0} → Option E → List E
given None = []
given (Some e) = e ∷ []

-- each edit puts an entry in its key's place, or takes the one there away
abbrev pub edited : {E : Type 0} → (E → ℕ) → List E → List (ℕ × Option E) → List E
edited key es [] = es
edited key es (d ∷ ds) = under key d.0 es ++ (given d.1 ++ edited key (over key d.0 es) ds)

-- an entry that is given has this key
abbrev pub Keyed : {E : Type 0} → (E → ℕ) → ℕ → Option E → Type 0
Keyed key k None = Unit {0}
Keyed key k (Some e) = key e ≡ k

-- the edits' keys ascend strictly, from low on and below high, and are those of their entries
abbrev pub AreEdits : {E : Type 0} → (E → ℕ) → ℕ → ℕ → List (ℕ × Option E) → Type 0
AreEdits key low high [] = Unit {0}
AreEdits key low high (d ∷ ds) = (low ≤ d.0) × (d.0 < high) × Keyed key d.0 d.1 × AreEdits key (d.0 + 1) high ds

-- ---- one key, and how many

-- the entry with a key, if there is one
abbrev pub entry_with : {E : Type 0} → (E → ℕ) → ℕ → List E → Option E
entry_with key k [] = None
entry_with key k (e ∷ es) = if key e == k then Some e else entry_with key k es

-- the number of an entry that may be there
abbrev pub of_some : {E : Type 0} → (E → ℕ) → Option E → ℕ
of_some f None = 0
of_some f (Some e) = f e

-- by how much the entries that are put exceed those whose keys they have
abbrev pub extra : {E : Type 0} → (E → ℕ) → (E → ℕ) → List E → List (ℕ × Option E) → ℕ
extra key f es [] = 0
extra key f es (d ∷ ds) = (of_some f d.1 - of_some f (entry_with key d.0 es)) + extra key f es ds

-- how many entries are put whose keys weren't there
abbrev pub puts : {E : Type 0} → (E → ℕ) → List E → List (ℕ × Option E) → ℕ
puts key es ds = extra key (λ e. 1) es ds
