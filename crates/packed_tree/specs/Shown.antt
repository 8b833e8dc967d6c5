-- Pages as they are written.
use Rattle.std.specs.Prelude.{◌≡◌, ℕ, List, map, Some}
use Rattle.pst_base.specs.declared.ids.Bref.{Bref}
use Rattle.btree_pages.specs.declared.inner.Inner.{Inner}
use Rattle.btree_pages.specs.Pages.{page_of}
use Rattle.page_frame.specs.Page.{IsPage}
use Rattle.tree_edit.specs.Pages.{seen}
use Rattle.tree_edit.specs.Shapes.{Shape}

-- the bytes are a page of a tree, sealed for its place, that shows this
pub record ShowsPage {E : Type 0} (rule : ℕ → ℕ) (size : ℕ) (entry_of : List ℕ → E) (kind : ℕ) (shape : Shape E) (at : Bref) (bytes : List ℕ) : Type 0 where
  pub body : List ℕ
  pub sealed : IsPage kind at body bytes
  pub shows : seen rule entry_of (page_of rule size body) ≡ Some shape

-- the children that entries of an inner page name
abbrev pub kids : List Inner → List (ℕ × Bref)
kids cs = map (λ (c : Inner). (c.key, c.page)) cs

-- their keys
abbrev pub keys : List Inner → List ℕ
keys cs = map (λ (c : Inner). c.key) cs
