-- What the maker of a tree leaves.
use Rattle.std.specs.Prelude.{ℕ, zero, suc, ◌≡◌, ◌+◌, ◌-◌, ◌*◌, ◌/◌, ◌<◌, ◌≤◌, ◌^◌, nat_le, if◌then◌else◌, List, [], ◌∷◌, ◌++◌, length, Option, Some}
use Rattle.byteorder.specs.Endian.{little_bytes, little_number}
use Rattle.heap_on_node.specs.Packing.{halves, item_in, spend, spread}
use Rattle.bth_tree.specs.Tree.{bth, end_of, root as root_of}

-- the bytes of records with keys of k bytes
abbrev pub spelled : ℕ → List (ℕ × List ℕ) → List ℕ
spelled k [] = []
spelled k (r ∷ rs) = little_bytes k r.0 ++ (r.1 ++ spelled k rs)

-- each key fits k bytes, and each entry has e bytes
abbrev pub AreRecords : ℕ → ℕ → List (ℕ × List ℕ) → Type 0
AreRecords k e [] = Unit {0}
AreRecords k e (r ∷ rs) = (r.0 < 256 ^ k) × (length r.1 ≡ e) × AreRecords k e rs

-- how many records of so many bytes an item holds
abbrev pub per_item : ℕ → ℕ
per_item size = 3580 / size

-- how many items of per records hold n records
abbrev pub chunks : ℕ → ℕ → ℕ
chunks per n = (n + (per - 1)) / per

-- how many items stand above m others, on so many levels; one alone has none above it
abbrev pub items_above : ℕ → ℕ → ℕ → ℕ
items_above per zero m = 0
items_above per (suc levels) m = if nat_le m 1 then 0 else chunks per m + items_above per levels (chunks per m)

-- how many items a tree of n records takes with its header; above fewer than 65,536 leaves there are at most two levels
abbrev pub items_made : ℕ → ℕ → ℕ → ℕ
items_made k e n = 1 + (chunks (per_item (k + e)) n + items_above (per_item (k + 4)) 2 (chunks (per_item (k + e)) n))

-- what was found is found still
abbrev pub Keeps : (ℕ → Option (List ℕ)) → (ℕ → Option (List ℕ)) → Type 0
Keeps old new = (hid : ℕ) (x : List ℕ) → old hid ≡ Some x → new hid ≡ Some x

-- the pairs name items that hold the records part by part, none of them empty; a pair has the first key of its part
abbrev pub Parts : (ℕ → Option (List ℕ)) → ℕ → List (ℕ × List ℕ) → List (ℕ × List ℕ) → Type 0
Parts get k [] recs = recs ≡ []
Parts get k (p ∷ ps) recs =
    (part : List (ℕ × List ℕ)) × (rest : List (ℕ × List ℕ)) × (recs ≡ part ++ rest) × (0 < length part) × (p.0 ≡ end_of part)
    × (get (little_number 4 p.1) ≡ Some (spelled k part)) × Parts get k ps rest

-- a level of items with these records was made, which these pairs name
pub record MakesLevel (old new : List (List (List ℕ))) (k : ℕ) (recs ps : List (ℕ × List ℕ)) : Type 0 where
  pub kept : Keeps (item_in old) (item_in new)
  pub parts : Parts (item_in new) k ps recs
  pub pairs : AreRecords k 4 ps
  pub blocks : length new ≤ length old + length ps
  pub half : halves new ≤ halves old + length ps
  pub spent : spread new ≤ spread old + (2 * length (spelled k recs) + 4 * length ps)

-- what a tree of these records counts for at most: their bytes twice, 48 for each leaf, and the header
abbrev pub tree_spend : ℕ → ℕ → List (ℕ × List ℕ) → ℕ
tree_spend k e recs = 2 * length (spelled k recs) + 48 * chunks (per_item (k + e)) (length recs) + 16

-- a tree of these records was made under a heap id, all other items stay, and the items take at most half a block each
pub record Makes (old new : List (List (List ℕ))) (hid k e : ℕ) (recs : List (ℕ × List ℕ)) : Type 0 where
  pub kept : Keeps (item_in old) (item_in new)
  pub tree : bth (item_in new) hid k e ≡ Some recs
  pub blocks : length new ≤ length old + items_made k e (length recs)
  pub half : halves new ≤ halves old + items_made k e (length recs)
  pub spent : spread new ≤ spread old + tree_spend k e recs

-- an item of these records was added, which the pair names
pub record AddsPart (old new : List (List (List ℕ))) (k : ℕ) (part : List (ℕ × List ℕ)) (p : ℕ × List ℕ) : Type 0 where
  pub kept : Keeps (item_in old) (item_in new)
  pub first : p.0 ≡ end_of part
  pub size : length p.1 ≡ 4
  pub here : item_in new (little_number 4 p.1) ≡ Some (spelled k part)
  pub blocks : length new ≤ length old + 1
  pub half : halves new ≤ halves old + 1
  pub spent : spread new ≡ spread old + spend (spelled k part)

-- the levels of a tree of these records were made, with its level count and its root
pub record MakesLevels (old new : List (List (List ℕ))) (k e : ℕ) (recs : List (ℕ × List ℕ)) (level hid : ℕ) : Type 0 where
  pub kept : Keeps (item_in old) (item_in new)
  pub root : root_of (item_in new) k e level hid ≡ Some recs
  pub some : hid ≡ 0 → ⊥
  pub blocks : length new + 1 ≤ length old + items_made k e (length recs)
  pub half : halves new + 1 ≤ halves old + items_made k e (length recs)
  pub spent : spread new + 16 ≤ spread old + tree_spend k e recs

-- the header of a tree
abbrev pub header_of : ℕ → ℕ → ℕ → ℕ → List ℕ
header_of k e level hid = 0xB5 ∷ k ∷ e ∷ level ∷ little_bytes 4 hid
