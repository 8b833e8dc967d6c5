-- What pages of one level come to, and what becomes of it.
use Rattle.std.specs.Prelude.{◌≡◌, ◌⊎◌, ◌==◌, if◌then◌else◌, ℕ, zero, suc, ◌+◌, ◌*◌, ◌≤◌, ◌<◌, List, [], ◌∷◌, ◌++◌, map, length, Option, Some, None}
use Rattle.pst_base.specs.declared.ids.Bref.{Bref}
use Rattle.btree_pages.specs.Pages.{size_at}
use Rattle.tree_edit.specs.declared.page.Seat.{Seat}
use Rattle.tree_edit.specs.declared.plan.Child.{Child}
use Rattle.tree_edit.specs.declared.plan.Child.TheVariants.{Old}
use Rattle.tree_edit.specs.declared.plan.PlanPage.{PlanPage}
use Rattle.tree_edit.specs.Shapes.{Shape, RiseIn, AreBelow, IsTree}
use Rattle.tree_edit.specs.Plans.{resolved, keys_of, AreKeys, AreShown, names, tally}

-- how many there are of what pages of a level have: entries of leaves, children of inner pages
abbrev pub size_of : {E : Type 0} → ℕ → List E → List (ℕ × Child) → ℕ
size_of level entries children = if level == 0 then length entries else length children

-- so many entries of this size fit a page of the level, and no more do
pub record IsMost (leaf level most : ℕ) : Type 0 where
  pub holds : most * size_at leaf level ≤ 488
  pub whole : (n : ℕ) → n * size_at leaf level ≤ 488 → n ≤ most

-- entries, or the trees of children of the level below, stand for these entries
abbrev pub StandsFor : {E : Type 0} → (E → ℕ) → ℕ → ℕ → List E → List (ℕ × Child) → (Bref → Option (Shape E)) → (ℕ → Bref) → List E → List Bref → Type 0
StandsFor key zero high entries children after name es qs = (es ≡ entries) × (qs ≡ [])
StandsFor key (suc n) high entries children after name es qs = AreBelow (IsTree after key n) high (resolved name children) es qs

-- a child that may stay
abbrev pub kept_child : Option Seat → List (ℕ × Child)
kept_child None = []
kept_child (Some seat) = (seat.key, Old seat.at) ∷ []

-- New pages are made of a content of pages of a level: they stand for what it stands for, and they are as few as that many entries or children take.
pub record Makes {E : Type 0} (key : E → ℕ) (rule : ℕ → ℕ) (leaf level : ℕ) (old_pages new_pages : List (PlanPage E)) (entries : List E) (children cs : List (ℕ × Child)) : Type 0 where
  pub more : List (PlanPage E)
  pub pages : new_pages ≡ old_pages ++ more
  pub keys : AreKeys rule (keys_of cs)
  pub rises : (low high : ℕ) → RiseIn low high (map key entries) → RiseIn low high (keys_of children) → RiseIn low high (keys_of cs)
  pub grows : length new_pages ≡ length old_pages + length cs
  pub few : (most k : ℕ) → IsMost leaf level most → size_of level entries children ≤ k * most → length cs ≤ k
  pub tree : (after : Bref → Option (Shape E)) (name : ℕ → Bref) (low high : ℕ) (es : List E) (qs : List Bref) → AreShown after name (length old_pages) more
      → RiseIn low high (map key entries) → RiseIn low high (keys_of children) → StandsFor key level high entries children after name es qs
      → (ws : List Bref) × AreBelow (IsTree after key level) high (resolved name cs) es ws × ((ib : ℕ) → tally ib ws ≡ tally ib qs + tally ib (names name (length old_pages) more))

-- A child that may stay and a content are put behind other children, the content as new pages.
pub record Settles {E : Type 0} (key : E → ℕ) (rule : ℕ → ℕ) (leaf level : ℕ) (old_pages new_pages : List (PlanPage E)) (kept : Option Seat) (entries : List E) (children old_out new_out : List (ℕ × Child)) : Type 0 where
  pub pieces : List (ℕ × Child)
  pub makes : Makes key rule leaf level old_pages new_pages entries children pieces
  pub out : new_out ≡ (old_out ++ kept_child kept) ++ pieces

-- a content is held behind what was held, where one of both has fewer entries or children than this
pub record IsJoined {E : Type 0} (level least : ℕ) (old_pages new_pages : List (PlanPage E)) (kept : Option Seat) (entries : List E) (children : List (ℕ × Child)) (more_entries : List E)
    (more_children old_out new_out : List (ℕ × Child)) (now_kept : Option Seat) (now_entries : List E) (now_children : List (ℕ × Child)) : Type 0 where
  pub kept_is : now_kept ≡ kept
  pub entries_are : now_entries ≡ entries ++ more_entries
  pub children_are : now_children ≡ children ++ more_children
  pub pages : new_pages ≡ old_pages
  pub out : new_out ≡ old_out
  pub small : (size_of level entries children < least) ⊎ (size_of level more_entries more_children < least)

-- a content is held in place of what was held, where neither has fewer
pub record IsNext {E : Type 0} (key : E → ℕ) (rule : ℕ → ℕ) (leaf level least : ℕ) (old_pages new_pages : List (PlanPage E)) (kept : Option Seat) (entries : List E) (children : List (ℕ × Child)) (more_entries : List E)
    (more_children old_out new_out : List (ℕ × Child)) (now_kept : Option Seat) (now_entries : List E) (now_children : List (ℕ × Child)) : Type 0 where
  pub kept_is : now_kept ≡ None
  pub entries_are : now_entries ≡ more_entries
  pub children_are : now_children ≡ more_children
  pub settles : Settles key rule leaf level old_pages new_pages kept entries children old_out new_out
  pub large : least ≤ size_of level entries children
  pub more_large : least ≤ size_of level more_entries more_children

-- one or the other
abbrev pub Moves : {E : Type 0} → (E → ℕ) → (ℕ → ℕ) → ℕ → ℕ → ℕ → List (PlanPage E) → List (PlanPage E) → Option Seat → List E → List (ℕ × Child) → List E
    → List (ℕ × Child) → List (ℕ × Child) → List (ℕ × Child) → Option Seat → List E → List (ℕ × Child) → Type 0
Moves key rule leaf level least old_pages new_pages kept entries children more_entries more_children old_out new_out now_kept now_entries now_children =
    IsJoined level least old_pages new_pages kept entries children more_entries more_children old_out new_out now_kept now_entries now_children
    ⊎ IsNext key rule leaf level least old_pages new_pages kept entries children more_entries more_children old_out new_out now_kept now_entries now_children
