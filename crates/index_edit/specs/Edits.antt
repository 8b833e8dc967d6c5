-- What the edits of a row index leave.
use Rattle.std.specs.Prelude.{ℕ, ◌≡◌, ◌≢◌, ◌<◌, ◌≤◌, ◌*◌, ◌/◌, List, [], ◌∷◌, ◌++◌, length, take, drop, Option, Some, None, Vec}
use Rattle.std.specs.declared.alloc.Global.{Global}
use Rattle.mapi_values.specs.Keyed.{put_key, drop_key}
use Rattle.bth_tree.specs.Records.{entry_of, whole}
use Rattle.bth_tree.specs.Tree.{end_of}
use Rattle.index_edit.specs.Rows.{key_of}
use Rattle.index_edit.specs.declared.leaf.NewLeaves.{NewLeaves}
use Rattle.index_edit.specs.declared.leaf.NewLeaves.TheVariants.{One, Behind, Halves}

-- the bytes may be an item of the heap that has a record
abbrev pub IsItem : List ℕ → Type 0
IsItem x = (8 ≤ length x) × (length x ≤ 3580)

abbrev pub FitLeaves : NewLeaves → Type 0
FitLeaves (One y) = IsItem y.items
FitLeaves (Behind first) = Unit {0}
FitLeaves (Halves y z) = IsItem y.items × IsItem z.items

-- the leaves hold the records of a leaf with one put
abbrev pub HoldLeaves : ℕ × List ℕ → List (ℕ × List ℕ) → NewLeaves → Type 0
HoldLeaves r rs (One y) = whole 4 4 y.items ≡ Some (put_key key_of r rs)
HoldLeaves r rs (Behind first) = (put_key key_of r rs ≡ rs ++ r ∷ []) × (first ≡ end_of rs) × (0 < length rs)
HoldLeaves r rs (Halves y z) =
    (xs : List (ℕ × List ℕ)) × (ys : List (ℕ × List ℕ)) × (whole 4 4 y.items ≡ Some xs) × (whole 4 4 z.items ≡ Some ys) × (put_key key_of r rs ≡ xs ++ ys)

-- the leaves are the bytes, cut behind a whole number of records
abbrev pub CutsHalves : List ℕ → NewLeaves → Type 0
CutsHalves x (One y) = ⊥
CutsHalves x (Behind first) = ⊥
CutsHalves x (Halves y z) = (y.items ≡ take (8 * (length x / 16)) x) × (z.items ≡ drop (8 * (length x / 16)) x)

-- the leaf without the record of a key, if it has one
abbrev pub LeavesOut : ℕ → List (ℕ × List ℕ) → Option (Vec ℕ Global) → Type 0
LeavesOut key rs None = (drop_key key_of key rs ≡ rs) × (entry_of key rs ≡ None)
LeavesOut key rs (Some y) = (whole 4 4 y.items ≡ Some (drop_key key_of key rs)) × (entry_of key rs ≢ None)
