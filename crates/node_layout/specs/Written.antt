-- Pages of a plan as they are written.
use Rattle.std.specs.Prelude.{◌≡◌, ℕ, ◌+◌, List, [], ◌∷◌, Some}
use Rattle.pst_base.specs.declared.ids.Bref.{Bref}
use Rattle.btree_pages.specs.Pages.{page_of}
use Rattle.page_frame.specs.Page.{IsPage}
use Rattle.lays_kept.specs.declared.Piece.{Piece}
use Rattle.tree_edit.specs.declared.plan.PlanPage.{PlanPage}
use Rattle.tree_edit.specs.Pages.{seen}
use Rattle.tree_edit.specs.Plans.{shape_in}

-- a piece is a page of a plan, sealed for its place
pub record IsWritten {E : Type 0} (rule : ℕ → ℕ) (size : ℕ) (entry_of : List ℕ → E) (kind : ℕ) (name : ℕ → Bref) (at : Bref) (page : PlanPage E) (piece : Piece) : Type 0 where
  pub body : List ℕ
  pub place : piece.at ≡ at.ib
  pub sealed : IsPage kind at body piece.bytes
  pub shows : seen rule entry_of (page_of rule size body) ≡ Some (shape_in name page)

-- each piece is the page with its number
abbrev pub AreWritten : {E : Type 0} → (ℕ → ℕ) → ℕ → (List ℕ → E) → ℕ → (ℕ → Bref) → ℕ → List (PlanPage E) → List Piece → Type 0
AreWritten rule size entry_of kind name from [] pieces = pieces ≡ []
AreWritten rule size entry_of kind name from (p ∷ ps) [] = ⊥
AreWritten rule size entry_of kind name from (p ∷ ps) (q ∷ qs) = IsWritten rule size entry_of kind name (name from) p q × AreWritten rule size entry_of kind name (from + 1) ps qs
