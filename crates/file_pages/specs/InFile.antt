-- The pages of a file's trees, and what they show.
use Rattle.std.specs.Prelude.{◌≡◌, ℕ, ◌+◌, if◌then◌else◌, List, map, take, drop, Option, Some, None, Result, Ok, Err}
use Rattle.pst_base.specs.declared.ids.Bref.{Bref}
use Rattle.pst_base.specs.declared.stops.PageFault.{PageFault}
use Rattle.page_frame.specs.Page.{reading}
use Rattle.file_layout.specs.declared.tree_pages.Seat.{Seat}
use Rattle.file_layout.specs.Trees.{FileTree, Found, IsTree as IsFileTree, IsWhole as IsFileWhole, is_placed}
use Rattle.tree_edit.specs.Shapes.{Shape, IsTree, IsWhole}
use Rattle.tree_edit.specs.Pages.{shapes}

-- what was read, if it was
abbrev pub ok_of : Result (List ℕ) PageFault → Option (List ℕ)
ok_of (Ok body) = Some body
ok_of (Err fault) = None

-- the contents of a file's pages of a kind, by their ids and places
abbrev pub bodies : List ℕ → ℕ → ℕ → Bref → Option (List ℕ)
bodies file eof kind at = if is_placed eof at.ib then ok_of (reading kind at (take 512 (drop at.ib file))) else None

-- the contents of the pages of a tree, in its file
abbrev pub body_at : FileTree → Bref → Option (List ℕ)
body_at t at = bodies t.file t.eof t.kind at

-- the shapes of a tree's pages in its file
abbrev pub shapes_in : {E : Type 0} → (List ℕ → E) → FileTree → Bref → Option (Shape E)
shapes_in entry_of t at = shapes t.rule t.leaf entry_of (body_at t) at

-- a tree in a file is one of shapes
abbrev pub IsShaped : {E : Type 0} → (List ℕ → E) → (E → ℕ) → FileTree → ℕ → ℕ → ℕ → Bref → Found → Type 0
IsShaped entry_of key t n low high at found = IsTree (shapes_in entry_of t) key n low (high + 1) at (map entry_of found.entries) found.pages

-- shapes of a tree's pages, as a tree in the file
pub record IsUnshaped {E : Type 0} (entry_of : List ℕ → E) (t : FileTree) (n : ℕ) (seat : Seat) (es : List E) (ps : List Bref) : Type 0 where
  pub found : Found
  pub tree : IsFileTree t n seat found
  pub entries : map entry_of found.entries ≡ es
  pub pages : found.pages ≡ ps

-- the tree of a root in a file is one of shapes
abbrev pub IsShapedRoot : {E : Type 0} → (List ℕ → E) → (E → ℕ) → FileTree → Bref → Found → Type 0
IsShapedRoot entry_of key t root found = IsWhole (shapes_in entry_of t) key root (map entry_of found.entries) found.pages

-- shapes of the pages below a root, as a tree in the file
pub record IsUnshapedRoot {E : Type 0} (entry_of : List ℕ → E) (t : FileTree) (root : Bref) (es : List E) (ps : List Bref) : Type 0 where
  pub found : Found
  pub tree : IsFileWhole t root found
  pub entries : map entry_of found.entries ≡ es
  pub pages : found.pages ≡ ps
