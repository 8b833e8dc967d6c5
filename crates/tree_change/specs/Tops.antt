-- The pages above those of one level, up to a root.
use Rattle.std.specs.Prelude.{◌≡◌, ℕ, ◌+◌, ◌*◌, ◌≤◌, List, [], ◌∷◌, ◌++◌, length}
use Rattle.pst_base.specs.declared.ids.Bref.{Bref}
use Rattle.tree_edit.specs.declared.plan.Child.{Child}
use Rattle.tree_edit.specs.declared.plan.Child.TheVariants.{New}
use Rattle.tree_edit.specs.declared.plan.PlanPage.{PlanPage}
use Rattle.tree_edit.specs.Shapes.{leaf}
use Rattle.tree_edit.specs.Plans.{shape_in}

-- a new leaf without entries, as the root
pub record IsAdded {E : Type 0} (old new : List (PlanPage E)) (root : Child) : Type 0 where
  pub page : PlanPage E
  pub grown : new ≡ old ++ (page ∷ [])
  pub is : root ≡ New (length old)
  pub shows : (name : ℕ → Bref) → shape_in name page ≡ leaf []

-- the root of at most one page: that page, or a new leaf without entries
pub record IsTop {E : Type 0} (old new : List (PlanPage E)) (cs : List (ℕ × Child)) (root : Child) : Type 0 where
  pub of_one : (c : ℕ × Child) → cs ≡ c ∷ [] → (root ≡ c.1) × (new ≡ old)
  pub of_none : cs ≡ [] → IsAdded old new root

-- ---- how many pages

-- so many pages, and these numbers of pages above them, level by level, of which none names more than twenty, up to a single one
abbrev pub Narrows : ℕ → List ℕ → Type 0
Narrows n [] = n ≤ 1
Narrows n (m ∷ ms) = (n ≤ m * 20) × Narrows m ms

-- how many pages stand above a level at most, where up to u more than these stand in each level, and no more than u above the last
abbrev pub room : ℕ → List ℕ → ℕ
room u [] = u
room u (m ∷ ms) = m + u + room u ms
