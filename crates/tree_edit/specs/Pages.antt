-- What the contents of pages show of their tree.
use Rattle.std.specs.Prelude.{ℕ, ◌==◌, ◌&&◌, nat_le, if◌then◌else◌, Bool, true, List, [], ◌∷◌, map, Option, Some, None, Result, Ok, Err}
use Rattle.pst_base.specs.declared.ids.Bref.{Bref}
use Rattle.pst_base.specs.declared.stops.PageFault.{PageFault}
use Rattle.btree_pages.specs.Entries.{inner_of}
use Rattle.btree_pages.specs.Pages.{Page, page_of}
use Rattle.tree_edit.specs.Shapes.{Shape, leaf, inner}

-- the child that an entry of an inner page names
abbrev pub child_in : (ℕ → ℕ) → List ℕ → ℕ × Bref
child_in rule b = (rule (inner_of b).key, (inner_of b).page)

-- what a page shows: the entries of a leaf, the children of another
abbrev pub shape_of : {E : Type 0} → (ℕ → ℕ) → (List ℕ → E) → Page → Shape E
shape_of rule entry_of page = if page.level == 0 then leaf (map entry_of page.entries) else inner page.level (map (child_in rule) page.entries)

-- what bytes show that are a page
abbrev pub seen : {E : Type 0} → (ℕ → ℕ) → (List ℕ → E) → Result Page PageFault → Option (Shape E)
seen rule entry_of (Ok page) = Some (shape_of rule entry_of page)
seen rule entry_of (Err fault) = None

-- what a content shows that may be there
abbrev pub shown : {E : Type 0} → (ℕ → ℕ) → ℕ → (List ℕ → E) → Option (List ℕ) → Option (Shape E)
shown rule size entry_of None = None
shown rule size entry_of (Some body) = seen rule entry_of (page_of rule size body)

-- what each page shows, of which the contents are these
abbrev pub shapes : {E : Type 0} → (ℕ → ℕ) → ℕ → (List ℕ → E) → (Bref → Option (List ℕ)) → Bref → Option (Shape E)
shapes rule size entry_of find at = shown rule size entry_of (find at)

-- each key is one from low to high
abbrev pub in_span : ℕ → ℕ → List ℕ → Bool
in_span low high [] = true
in_span low high (k ∷ ks) = (nat_le low k && nat_le k high) && in_span low high ks
