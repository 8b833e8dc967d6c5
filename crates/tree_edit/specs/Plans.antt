-- New pages of a tree, with numbers in place of the ids and places that they will get, and when they are right.
use Rattle.std.specs.Prelude.{◌≡◌, ℕ, ◌+◌, ◌^◌, ◌*◌, ◌≤◌, ◌==◌, if◌then◌else◌, List, [], ◌∷◌, map, length, Option, Some}
use Rattle.pst_base.specs.declared.ids.Bref.{Bref}
use Rattle.tree_edit.specs.declared.plan.Child.{Child}
use Rattle.tree_edit.specs.declared.plan.Child.TheVariants.{Old, New}
use Rattle.tree_edit.specs.declared.plan.PlanPage.{PlanPage}
use Rattle.tree_edit.specs.declared.plan.PlanPage.TheVariants.{Leaf, Inner}
use Rattle.tree_edit.specs.Shapes.{Shape, leaf, inner, RiseIn, IsWhole}

-- where a child stands, once the new pages have their places
abbrev pub resolve : (ℕ → Bref) → Child → Bref
resolve name (Old at) = at
resolve name (New i) = name i

-- children by their places
abbrev pub resolved : (ℕ → Bref) → List (ℕ × Child) → List (ℕ × Bref)
resolved name cs = map (λ c. (c.0, resolve name c.1)) cs

-- the children's keys
abbrev pub keys_of : List (ℕ × Child) → List ℕ
keys_of cs = map (λ c. c.0) cs

-- what a new page shows then
abbrev pub shape_in : {E : Type 0} → (ℕ → Bref) → PlanPage E → Shape E
shape_in name (Leaf es) = leaf es.items
shape_in name (Inner level cs) = inner level (resolved name cs.items)

-- the new pages from a number on are shown under their names
abbrev pub AreShown : {E : Type 0} → (Bref → Option (Shape E)) → (ℕ → Bref) → ℕ → List (PlanPage E) → Type 0
AreShown find name from [] = Unit {0}
AreShown find name from (p ∷ ps) = (find (name from) ≡ Some (shape_in name p)) × AreShown find name (from + 1) ps

-- their names
abbrev pub names : {E : Type 0} → (ℕ → Bref) → ℕ → List (PlanPage E) → List Bref
names name from [] = []
names name from (p ∷ ps) = name from ∷ names name (from + 1) ps

-- the pages show what they showed
abbrev pub AreKept : {E : Type 0} → (Bref → Option (Shape E)) → (Bref → Option (Shape E)) → List Bref → Type 0
AreKept old new [] = Unit {0}
AreKept old new (p ∷ ps) = (new p ≡ old p) × AreKept old new ps

-- how often a place is named
abbrev pub tally : ℕ → List Bref → ℕ
tally ib [] = 0
tally ib (p ∷ ps) = (if p.ib == ib then 1 else 0) + tally ib ps

-- A plan is right for an old tree with these pages: the pages that it doesn't free, with the new ones under any names, are a tree with these entries, whose pages are just those, each as often as it stands there.
pub record IsPlan {E : Type 0} (find : Bref → Option (Shape E)) (key : E → ℕ) (pages : List (PlanPage E)) (freed : List Bref) (root : Child) (es : List E) (ps : List Bref) : Type 0 where
  pub kept : List Bref
  pub counted : (ib : ℕ) → tally ib kept + tally ib freed ≡ tally ib ps
  pub tree : (after : Bref → Option (Shape E)) (name : ℕ → Bref) → AreKept find after kept → AreShown after name 0 pages
      → (qs : List Bref) × IsWhole after key (resolve name root) es qs × ((ib : ℕ) → tally ib qs ≡ tally ib kept + tally ib (names name 0 pages))

-- the tree's rule leaves each of these keys as it is
abbrev pub AreKeys : (ℕ → ℕ) → List ℕ → Type 0
AreKeys rule [] = Unit {0}
AreKeys rule (k ∷ ks) = (rule k ≡ k) × AreKeys rule ks

-- a page that may be written as it is: its entries fit a page, its keys ascend, and those of children are keys by the tree's rule
abbrev pub IsWritable : {E : Type 0} → (E → ℕ) → (ℕ → ℕ) → ℕ → PlanPage E → Type 0
IsWritable key rule size (Leaf es) = (length es.items * size ≤ 488) × RiseIn 0 (2 ^ 64) (map key es.items)
IsWritable key rule size (Inner level cs) = (1 ≤ level) × (level ≤ 7) × (length cs.items ≤ 20) × RiseIn 0 (2 ^ 64) (keys_of cs.items) × AreKeys rule (keys_of cs.items)

-- each page is
abbrev pub AreWritable : {E : Type 0} → (E → ℕ) → (ℕ → ℕ) → ℕ → List (PlanPage E) → Type 0
AreWritable key rule size [] = Unit {0}
AreWritable key rule size (p ∷ ps) = IsWritable key rule size p × AreWritable key rule size ps
