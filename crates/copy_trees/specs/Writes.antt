-- What the writing of a packed tree adds to a copy.
use Rattle.std.specs.Prelude.{◌≡◌, ℕ, suc, List, [], ◌∷◌, ◌++◌, map}
use Rattle.pst_base.specs.declared.ids.Bref.{Bref}
use Rattle.pst_outside.specs.World.{World}
use Rattle.data_tree.proofs.PieceLaws.{joined}
use Rattle.lays_kept.specs.declared.Piece.{Piece}
use Rattle.tree_edit.specs.Shapes.{Shape, inner, leaf}
use Rattle.packed_tree.specs.Packed.{children, groups, head}
use Rattle.packed_tree.specs.Shown.{ShowsPage}
use Rattle.copy_pieces.specs.Writes.{Adds}

-- a tree's pages as they are written: the rule of its keys, the size of a leaf's entries and what their bytes are, and the kind of its pages
pub record Form (E : Type 0) : Type 0 where
  pub rule : ℕ → ℕ
  pub size : ℕ
  pub entry_of : List ℕ → E
  pub key : E → ℕ
  pub kind : ℕ

-- that form by its parts
abbrev pub form : {E : Type 0} → (ℕ → ℕ) → ℕ → (List ℕ → E) → (E → ℕ) → ℕ → Form E
form rule size entry_of key kind = record { rule = rule; size = size; entry_of = entry_of; key = key; kind = kind }

-- each piece is the page at its place, and shows its shape
abbrev pub ArePagesOf : {E : Type 0} → Form E → List (Shape E) → List Bref → List Piece → Type 0
ArePagesOf form [] ats pieces = (ats ≡ []) × (pieces ≡ [])
ArePagesOf form (s ∷ ss) [] pieces = ⊥
ArePagesOf form (s ∷ ss) (at ∷ ats) [] = ⊥
ArePagesOf form (s ∷ ss) (at ∷ ats) (p ∷ ps) = (p.at ≡ at.ib) × ShowsPage form.rule form.size form.entry_of form.kind s at p.bytes × ArePagesOf form ss ats ps

-- the copy has the pages besides that show these
pub record AddsPages {E : Type 0} (form : Form E) (shapes : List (Shape E)) (ats : List Bref) (old new : List ℕ) : Type 0 where
  pub pieces : List Piece
  pub are : ArePagesOf form shapes ats pieces
  pub adds : Adds old new pieces

-- the same of Copy from one moment to another, where the later one is told
abbrev pub PutsPages : {E : Type 0} → Form E → List (Shape E) → List Bref → World → World → Type 0
PutsPages form shapes ats old new = new.tells → AddsPages form shapes ats old.here.copy new.here.copy

-- what the pages above a level show that names these, level by level
abbrev pub shapes_above : {E : Type 0} → ℕ → List (ℕ × Bref) → List (List Bref) → List (Shape E)
shapes_above n cs [] = []
shapes_above n cs (ats ∷ levels) = map (inner (suc n)) (groups 20 cs) ++ shapes_above (suc n) (children head (groups 20 cs) ats) levels

-- what all pages of a packed tree show, level by level from the leaves on
abbrev pub shapes_in : {E : Type 0} → (E → ℕ) → ℕ → List E → List (List Bref) → List (Shape E)
shapes_in key most es [] = []
shapes_in key most es (ats ∷ levels) = map leaf (groups most es) ++ shapes_above 0 (children key (groups most es) ats) levels

-- the copy has the pages of the tree of these entries besides
pub record AddsTree {E : Type 0} (form : Form E) (most : ℕ) (es : List E) (levels : List (List Bref)) (old new : List ℕ) : Type 0 where
  pub pieces : List Piece
  pub are : ArePagesOf form (shapes_in form.key most es levels) (joined levels) pieces
  pub adds : Adds old new pieces

-- the same of Copy from one moment to another, where the later one is told
abbrev pub PutsTree : {E : Type 0} → Form E → ℕ → List E → List (List Bref) → World → World → Type 0
PutsTree form most es levels old new = new.tells → AddsTree form most es levels old.here.copy new.here.copy
