-- A tree of pages in as few of them as it takes: each page of a level is full but the last.
use Rattle.std.specs.Prelude.{◌≡◌, ◌≤◌, ℕ, suc, List, [], ◌∷◌, map, length, Option, Some}
use Rattle.pst_base.specs.declared.ids.Bref.{Bref}
use Rattle.data_tree.specs.Plan.{cut}
use Rattle.data_tree.proofs.PieceLaws.{joined}
use Rattle.tree_edit.specs.Plans.{tally}
use Rattle.tree_edit.specs.Shapes.{IsWhole, Shape, leaf, inner}

-- what stands on the pages of a level: so many on each but the last, and where there is nothing one page without any
abbrev pub groups : {X : Type 0} → ℕ → List X → List (List X)
groups most [] = [] ∷ []
groups most (x ∷ xs) = cut most (x ∷ xs)

-- each page shows its shape
abbrev pub ArePages : {E : Type 0} → (Bref → Option (Shape E)) → List (Shape E) → List Bref → Type 0
ArePages find [] ats = ats ≡ []
ArePages find (s ∷ ss) [] = ⊥
ArePages find (s ∷ ss) (at ∷ ats) = (find at ≡ Some s) × ArePages find ss ats

-- the key of the first, 0 where there is none
abbrev pub first_of : {X : Type 0} → (X → ℕ) → List X → ℕ
first_of key [] = 0
first_of key (x ∷ xs) = key x

-- the pages of a level as the next level names them, each with its first key
abbrev pub children : {X : Type 0} → (X → ℕ) → List (List X) → List Bref → List (ℕ × Bref)
children key [] ats = []
children key (g ∷ gs) [] = []
children key (g ∷ gs) (at ∷ ats) = (first_of key g, at) ∷ children key gs ats

-- the key with which a page is named
abbrev pub head : ℕ × Bref → ℕ
head c = c.0

-- The pages above some of level n, level by level: each names twenty but the last, up to a single one, the root.
abbrev pub AreAbove : {E : Type 0} → (Bref → Option (Shape E)) → ℕ → List (ℕ × Bref) → List (List Bref) → Bref → Type 0
AreAbove find n cs [] root = (k : ℕ) × (cs ≡ (k, root) ∷ [])
AreAbove find n cs (ats ∷ levels) root =
    (2 ≤ length cs) × ArePages find (map (inner (suc n)) (groups 20 cs)) ats × AreAbove find (suc n) (children head (groups 20 cs) ats) levels root

-- The pages of the levels, from the leaves on, are a tree of these entries, of which so many stand on each leaf but the last.
pub record IsPacked {E : Type 0} (find : Bref → Option (Shape E)) (key : E → ℕ) (most : ℕ) (es : List E) (levels : List (List Bref)) (root : Bref) : Type 0 where
  pub leaves : List Bref
  pub above : List (List Bref)
  pub are : levels ≡ leaves ∷ above
  pub low_enough : length above ≤ 7
  pub entries : ArePages find (map leaf (groups most es)) leaves
  pub names : AreAbove find 0 (children key (groups most es) leaves) above root

-- The pages of the levels are a tree with these entries, each page once.
pub record AreTree {E : Type 0} (find : Bref → Option (Shape E)) (key : E → ℕ) (es : List E) (levels : List (List Bref)) (root : Bref) : Type 0 where
  pub pages : List Bref
  pub whole : IsWhole find key root es pages
  pub counted : (ib : ℕ) → tally ib pages ≡ tally ib (joined levels)
