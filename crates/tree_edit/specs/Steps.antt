-- The steps of a plan: what becomes of the children of one page, and of a root.
use Rattle.std.specs.Prelude.{◌≡◌, ◌⊎◌, ℕ, zero, suc, ◌+◌, ◌-◌, ◌^◌, ◌*◌, ◌≤◌, ◌<◌, List, [], ◌++◌, map, length, Option}
use Rattle.pst_base.specs.declared.ids.Bref.{Bref}
use Rattle.btree_pages.specs.Pages.{Page}
use Rattle.tree_edit.specs.declared.plan.Child.{Child}
use Rattle.tree_edit.specs.declared.plan.PlanPage.{PlanPage}
use Rattle.tree_edit.specs.Shapes.{Shape, RiseIn, AreBelow, IsTree}
use Rattle.tree_edit.specs.Joins.{IsMost}
use Rattle.tree_edit.specs.Pages.{child_in, shapes}
use Rattle.tree_edit.specs.Plans.{resolved, keys_of, AreShown, names, AreKept, tally}

-- What became of pages with these entries: more new pages, old pages that are gone and others that are kept, such that what stands for the entries now is there, with just these pages.
pub record Becomes {E : Type 0} (find : Bref → Option (Shape E)) (Now : (Bref → Option (Shape E)) → (ℕ → Bref) → List E → List Bref → Type 0) (old_pages new_pages : List (PlanPage E)) (old_freed new_freed : List Bref)
    (es : List E) (ps : List Bref) : Type 0 where
  pub more : List (PlanPage E)
  pub gone : List Bref
  pub kept : List Bref
  pub pages : new_pages ≡ old_pages ++ more
  pub freed : new_freed ≡ old_freed ++ gone
  pub counted : (ib : ℕ) → tally ib kept + tally ib gone ≡ tally ib ps
  pub tree : (after : Bref → Option (Shape E)) (name : ℕ → Bref) → AreKept find after kept → AreShown after name (length old_pages) more
      → (qs : List Bref) × Now after name es qs × ((ib : ℕ) → tally ib qs ≡ tally ib kept + tally ib (names name (length old_pages) more))

-- children of level n became others, which have the entries
abbrev pub Replaces : {E : Type 0} → (Bref → Option (Shape E)) → (E → ℕ) → ℕ → ℕ → List (PlanPage E) → List (PlanPage E) → List Bref → List Bref → List (ℕ × Child) → List E → List Bref → Type 0
Replaces find key n high old_pages new_pages old_freed new_freed cs es ps = Becomes find (λ after name fs qs. AreBelow (IsTree after key n) high (resolved name cs) fs qs) old_pages new_pages old_freed new_freed es ps

-- what new pages make of some entries: leaves
pub record Lays {E : Type 0} (key : E → ℕ) (old_pages new_pages : List (PlanPage E)) (cs : List (ℕ × Child)) (es : List E) : Type 0 where
  pub more : List (PlanPage E)
  pub pages : new_pages ≡ old_pages ++ more
  pub rises : (low high : ℕ) → RiseIn low high (map key es) → RiseIn low high (keys_of cs)
  pub tree : (after : Bref → Option (Shape E)) (name : ℕ → Bref) (low high : ℕ) → AreShown after name (length old_pages) more → RiseIn low high (map key es)
      → (qs : List Bref) × AreBelow (IsTree after key 0) high (resolved name cs) es qs × ((ib : ℕ) → tally ib qs ≡ tally ib (names name (length old_pages) more))

-- what new pages of levels up to m make of some children of level n
pub record Lifts {E : Type 0} (key : E → ℕ) (n m : ℕ) (old_pages new_pages : List (PlanPage E)) (ds cs : List (ℕ × Child)) : Type 0 where
  pub more : List (PlanPage E)
  pub pages : new_pages ≡ old_pages ++ more
  pub rises : (low high : ℕ) → RiseIn low high (keys_of ds) → RiseIn low high (keys_of cs)
  pub tree : (after : Bref → Option (Shape E)) (name : ℕ → Bref) (low high : ℕ) (es : List E) (ps : List Bref) → AreShown after name (length old_pages) more → RiseIn low high (keys_of ds)
      → AreBelow (IsTree after key n) high (resolved name ds) es ps
      → (qs : List Bref) × AreBelow (IsTree after key m) high (resolved name cs) es qs × ((ib : ℕ) → tally ib qs ≡ tally ib ps + tally ib (names name (length old_pages) more))

-- what new pages of the next level make of some children
abbrev pub Packs : {E : Type 0} → (E → ℕ) → ℕ → List (PlanPage E) → List (PlanPage E) → List (ℕ × Child) → List (ℕ × Child) → Type 0
Packs key n old_pages new_pages ds cs = Lifts key n (suc n) old_pages new_pages ds cs

-- what stands below a root that shows this page
pub record IsUnder {E : Type 0} (find : Bref → Option (Shape E)) (key : E → ℕ) (rule : ℕ → ℕ) (entry_of : List ℕ → E) (page : Page) (es : List E) (ps : List Bref) : Type 0 where
  pub of_leaf : page.level ≡ 0 → (es ≡ map entry_of page.entries) × (ps ≡ [])
  pub of_inner : (n : ℕ) → page.level ≡ suc n → AreBelow (IsTree find key n) (2 ^ 64) (map (child_in rule) page.entries) es ps

-- ---- what a source tells below a root

-- a tree of this level at this page
abbrev pub TellsTree : {E : Type 0} → (ℕ → ℕ) → ℕ → (List ℕ → E) → (E → ℕ) → ℕ → ℕ → ℕ → Bref → (Bref → Option (List ℕ)) → Type 0
TellsTree {E} rule size entry_of key level low high at find = (es : List E) × (ps : List Bref) × IsTree (shapes rule size entry_of find) key level low high at es ps

-- the trees of this inner page's children
abbrev pub TellsBelow : {E : Type 0} → (ℕ → ℕ) → ℕ → (List ℕ → E) → (E → ℕ) → Page → ℕ → (Bref → Option (List ℕ)) → Type 0
TellsBelow {E} rule size entry_of key page high find =
    (n : ℕ) × (page.level ≡ suc n) × (es : List E) × (ps : List Bref) × AreBelow (IsTree (shapes rule size entry_of find) key n) high (map (child_in rule) page.entries) es ps

-- what stands below a root that shows this page
abbrev pub TellsUnder : {E : Type 0} → (ℕ → ℕ) → ℕ → (List ℕ → E) → (E → ℕ) → Page → (Bref → Option (List ℕ)) → Type 0
TellsUnder {E} rule size entry_of key page find = (es : List E) × (ps : List Bref) × IsUnder (shapes rule size entry_of find) key rule entry_of page es ps

-- ---- how many pages

-- How many pieces and new pages stand below a root after e edits: those of one leaf, or those of an inner page.
abbrev pub AreFew : ℕ → ℕ → ℕ → ℕ → ℕ → Type 0
AreFew level e old new cs = ((cs ≤ 1 + e) × (new ≡ old + cs)) ⊎ ((1 ≤ level) × (cs ≤ 20 + e) × (new ≤ old + (2 * level) * e))

-- n + 1 times a number
abbrev pub weigh : ℕ → ℕ → ℕ
weigh zero u = u
weigh (suc n) u = weigh n u + u

-- In place of k children of level n came so many pieces, where u entries were put that weren't there: the lengths of the lists of new pages and of freed pages, before and after.
pub record IsSpare (n k u old_pages new_pages old_freed new_freed pieces : ℕ) : Type 0 where
  pub few : pieces ≤ k + u
  pub spare : new_pages + old_freed ≤ old_pages + new_freed + weigh n u

-- A page was read, and its entries or children weren't packed yet: they are so many, where u entries were put that weren't there.
pub record IsRead (leaf level u size old_pages new_pages old_freed new_freed : ℕ) : Type 0 where
  pub few : (most : ℕ) → IsMost leaf level most → size ≤ most + u
  pub spare : new_pages + old_freed + 1 + u ≤ old_pages + new_freed + weigh level u

-- the same below a root: of a root that is a leaf or has no child there are only new leaves, else it has at most twenty children of level n
abbrev pub AreSpare : ℕ → ℕ → ℕ → ℕ → ℕ → ℕ → ℕ → Type 0
AreSpare n u old_pages new_pages old_freed new_freed pieces =
    ((pieces ≤ 1 + u) × (new_pages ≡ old_pages + pieces) × (new_freed ≡ old_freed)) ⊎ IsSpare n 20 u old_pages new_pages old_freed new_freed pieces

-- ---- a tree that is written anew

-- A tree whose root has this level was written anew after so many edits: they are so many that it might pass level 7, and each of its pages is freed.
pub record IsAnew (level edits : ℕ) (freed ps : List Bref) : Type 0 where
  pub many : 20 ^ (7 - (level - 1)) < 20 + edits
  pub all : (ib : ℕ) → tally ib freed ≡ tally ib ps
