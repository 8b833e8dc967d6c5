-- The pages of a packed tree, level by level, and where they stand.
use Rattle.std.specs.Prelude.{◌≡◌, ◌≤◌, ℕ, max, ◌+◌, ◌-◌, ◌/◌, List, [], ◌∷◌, map, length}
use Rattle.pst_base.specs.declared.ids.Bref.{Bref}
use Rattle.copy_layout.specs.Order.{InOrder}
use Rattle.data_tree.proofs.PieceLaws.{joined}
use Rattle.file_layout.specs.Trees.{page_place}

-- how many pages hold n things, so many on each but the last; one where there is nothing
abbrev pub pages_for : ℕ → ℕ → ℕ
pages_for most n = max 1 ((n + (most - 1)) / most)

-- The levels above one of n pages: each has a page for twenty of those below, up to a single page, the root.
abbrev pub AreLevelsAbove : ℕ → List (List Bref) → Type 0
AreLevelsAbove n [] = n ≡ 1
AreLevelsAbove n (ats ∷ levels) = (2 ≤ n) × (length ats ≡ pages_for 20 n) × AreLevelsAbove (length ats) levels

-- the only page of the last level
abbrev pub IsRoot : List (List Bref) → Bref → Type 0
IsRoot [] root = ⊥
IsRoot (ats ∷ []) root = ats ≡ root ∷ []
IsRoot (ats ∷ next ∷ levels) root = IsRoot (next ∷ levels) root

-- The levels of a tree of n entries, from the leaves on, which have so many each, up to its root.
pub record AreLevels (most n : ℕ) (levels : List (List Bref)) (root : Bref) : Type 0 where
  pub leaves : List Bref
  pub above : List (List Bref)
  pub are : levels ≡ leaves ∷ above
  pub enough : length leaves ≡ pages_for most n
  pub few : length above ≤ 7
  pub higher : AreLevelsAbove (length leaves) above
  pub root_is : IsRoot levels root

-- pages have numbers one after another, of which `next` follows the last
abbrev pub AreNumbered : ℕ → List Bref → ℕ → Type 0
AreNumbered from [] next = next ≡ from
AreNumbered from (at ∷ ats) next = ((at.bid).bits ≡ from) × AreNumbered (from + 1) ats next

-- The pages of a tree of n entries stand one behind the other from a place on, up to `end`, with the numbers from one on.
pub record IsPlanned (most n from first : ℕ) (levels : List (List Bref)) (root : Bref) (end next : ℕ) : Type 0 where
  pub levels_are : AreLevels most n levels root
  pub order : InOrder 512 from (map page_place (joined levels)) end
  pub numbers : AreNumbered first (joined levels) next
