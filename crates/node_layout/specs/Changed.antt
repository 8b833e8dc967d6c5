-- A tree of a file after edits, in the file that has its new pages.
use Rattle.std.specs.Prelude.{◌≡◌, ℕ, ◌+◌, List, map, Option}
use Rattle.pst_base.specs.declared.ids.Bref.{Bref}
use Rattle.file_layout.specs.Trees.{FileTree, Found, IsWhole as IsFileWhole, page_place, page_places}
use Rattle.lays_kept.specs.Moved.{moved}
use Rattle.alloc_map.specs.Tally.{tally}
use Rattle.tree_edit.specs.declared.plan.Child.{Child}
use Rattle.tree_edit.specs.declared.plan.PlanPage.{PlanPage}
use Rattle.tree_edit.specs.Edits.{edited}
use Rattle.tree_edit.specs.Plans.{names, resolve, tally as times}

-- The tree of a root stands in the new file with the edited entries. Each place is named, and each slot covered, by its pages and the freed ones as often as by the old pages and the new ones.
pub record IsChangedTree {E : Type 0} (entry_of : List ℕ → E) (key : E → ℕ) (t : FileTree) (new : List ℕ) (more : ℕ) (old : Found) (pages : List (PlanPage E)) (freed : List Bref) (top : Child) (name : ℕ → Bref) (ds : List (ℕ × Option E)) : Type 0 where
  pub found : Found
  pub tree : IsFileWhole (moved t new more) (resolve name top) found
  pub entries : map entry_of found.entries ≡ edited key (map entry_of old.entries) ds
  pub named : (ib : ℕ) → times ib found.pages + times ib freed ≡ times ib old.pages + times ib (names name 0 pages)
  pub places : (slot : ℕ) → tally slot (page_places found) + tally slot (map page_place freed) ≡ tally slot (page_places old) + tally slot (map page_place (names name 0 pages))
