-- The pages of a packed tree, once they stand in a copy, are a tree of it.
use Rattle.std.proofs.Common.{Bool, true, ◌≡◌, ◌∙◌, ℕ, zero, suc, ◌+◌, ◌%◌, ◌^◌, ◌≤◌, ◌<◌, if◌then◌else◌, List, [], ◌∷◌, length, take, drop, map, Some, None, refl, sym, ap}
use Rattle.std.proofs.lemmas.Bool.{eq-eqb, le-leb}
use Rattle.pst_base.specs.declared.ids.Bref.{Bref}
use Rattle.pst_base.specs.Fields.{number_at}
use Rattle.page_frame.specs.Page.{reading}
use Rattle.data_tree.proofs.PieceLaws.{joined}
use Rattle.file_layout.specs.Trees.{FileTree, Found, IsPlace, IsWhole as IsFileWhole, is_placed, page_place}
use Rattle.file_pages.specs.InFile.{body_at, ok_of, shapes_in}
use Rattle.file_pages.proofs.Bridge.{shaped-root, unshaped-root}
use Rattle.lays_kept.specs.declared.Piece.{Piece}
use Rattle.lays_kept.specs.Kept.{Each}
use Rattle.node_layout.specs.Pieces.{EachStands, piece_place}
use Rattle.tree_edit.specs.Pages.{shown}
use Rattle.tree_edit.specs.Plans.{tally}
use Rattle.tree_edit.specs.Shapes.{IsRootOf, IsTree, RiseIn, Shape}
use Rattle.tree_edit.proofs.ShapeLaws.{below-rise, tree-rise}
use Rattle.copy_trees.specs.packed_tree.Packed.{ArePages}
use Rattle.copy_trees.specs.packed_tree.Shown.{ShowsPage}
use Rattle.copy_trees.proofs.packed_tree_laws.PackedLaws.{packed-whole}
use Rattle.copy_trees.specs.Levels.{AreLevels}
use Rattle.copy_trees.specs.Writes.{ArePagesOf, Form, shapes_in as shapes_of}
use Rattle.copy_trees.proofs.TreeLaws.{written-packed}

-- ---- pages

-- how the pages of a tree in a file are written
abbrev pub form_in : {E : Type 0} → (List ℕ → E) → (E → ℕ) → FileTree → Form E
form_in entry_of key t = record { rule = t.rule; size = t.leaf; entry_of = entry_of; key = key; kind = t.kind }

pub pages-placed : {E : Type 0} (form : Form E) (ss : List (Shape E)) (ats : List Bref) (pieces : List Piece) → ArePagesOf form ss ats pieces → map piece_place pieces ≡ map page_place ats
pages-placed form [] ats pieces are = ap (map piece_place) are.1 ∙ ap (map page_place) (sym are.0)
pages-placed form (s ∷ ss) [] pieces are = absurd are
pages-placed form (s ∷ ss) (at ∷ ats) [] are = absurd are
pages-placed form (s ∷ ss) (at ∷ ats) (p ∷ ps) are =
    let here = are.0 in
    let size = are.1.sealed.0 in
    let rest = pages-placed form ss ats ps are.2 in
    λ i. record { ib = here i; len = size i } ∷ rest i

one-shown : {E : Type 0} (entry_of : List ℕ → E) (t : FileTree) (s : Shape E) (at : Bref) (piece : Piece) → piece.at ≡ at.ib → ShowsPage t.rule t.leaf entry_of t.kind s at piece.bytes → IsPlace t.eof (page_place at)
    → take (length piece.bytes) (drop piece.at t.file) ≡ piece.bytes → shapes_in entry_of t at ≡ Some s
one-shown entry_of t s at piece there is place stands =
    let x = place.above in
    let y = place.before in
    let here : take 512 (drop at.ib t.file) ≡ piece.bytes = ap (λ (n : ℕ). take n (drop at.ib t.file)) (sym is.sealed.0) ∙ ap (λ (k : ℕ). take (length piece.bytes) (drop k t.file)) (sym there) ∙ stands in
    let placed : is_placed t.eof at.ib ≡ true = rw (le-leb 0x4400 at.ib x, eq-eqb (at.ib % 64) 0 place.start, le-leb (at.ib + 512) t.eof y) refl in
    let body : body_at t at ≡ Some is.body =
    ap (λ (b : Bool). if b then ok_of (reading t.kind at (take 512 (drop at.ib t.file))) else None) placed ∙ ap (λ (b : List ℕ). ok_of (reading t.kind at b)) here ∙ ap ok_of is.sealed.1 in
    ap (shown t.rule t.leaf entry_of) body ∙ is.shows

pages-shown : {E : Type 0} (entry_of : List ℕ → E) (key : E → ℕ) (t : FileTree) (ss : List (Shape E)) (ats : List Bref) (pieces : List Piece) → ArePagesOf (form_in entry_of key t) ss ats pieces
    → Each (IsPlace t.eof) (map page_place ats) → EachStands t.file pieces → ArePages (shapes_in entry_of t) ss ats
pages-shown entry_of key t [] ats pieces are places stands = are.0
pages-shown entry_of key t (s ∷ ss) [] pieces are places stands = absurd are
pages-shown entry_of key t (s ∷ ss) (at ∷ ats) [] are places stands = absurd are
pages-shown entry_of key t (s ∷ ss) (at ∷ ats) (p ∷ ps) are places stands =
    (one-shown entry_of t s at p are.0 are.1 places.0 stands.0, pages-shown entry_of key t ss ats ps are.2 places.1 stands.1)

-- ---- the tree

-- the tree of a root stands in its file with these entries, and each of these pages once
pub record HasTree {E : Type 0} (entry_of : List ℕ → E) (t : FileTree) (root : Bref) (es : List E) (levels : List (List Bref)) : Type 0 where
  pub found : Found
  pub whole : IsFileWhole t root found
  pub entries : map entry_of found.entries ≡ es
  pub counted : (ib : ℕ) → tally ib found.pages ≡ tally ib (joined levels)

module _ {E : Type 0} (entry_of : List ℕ → E) (key : E → ℕ) (t : FileTree) (law : (b : List ℕ) → key (entry_of b) ≡ t.rule (number_at 8 0 b)) where
  pub tree-stands : (most : ℕ) (es : List E) (levels : List (List Bref)) (root : Bref) (pieces : List Piece) → 0 < most → t.eof ≤ length t.file → RiseIn 0 (2 ^ 64) (map key es) → AreLevels most (length es) levels root
      → ArePagesOf (form_in entry_of key t) (shapes_of key most es levels) (joined levels) pieces → Each (IsPlace t.eof) (map page_place (joined levels)) → EachStands t.file pieces → HasTree entry_of t root es levels
  tree-stands most es levels root pieces some long rise is are places stands =
      let shown = pages-shown entry_of key t (shapes_of key most es levels) (joined levels) pieces are places stands in
      let tree = packed-whole (shapes_in entry_of t) key most es levels root some rise (written-packed (shapes_in entry_of t) key most es levels root some is shown) in
      let there = unshaped-root entry_of key t law root es tree.pages long tree.whole in
      record { found = there.found; whole = there.tree; entries = there.entries; counted = λ ib. ap (tally ib) there.pages ∙ tree.counted ib }

  -- the keys of a tree's entries rise
  pub tree-rises : (root : Bref) (found : Found) → IsFileWhole t root found → RiseIn 0 (2 ^ 64) (map key (map entry_of found.entries))
  tree-rises root found whole =
      let is = shaped-root entry_of key t law root found whole in
      go (map entry_of found.entries) found.pages is.level is.tree
    where
      go : (es : List E) (ps : List Bref) (n : ℕ) → IsRootOf (shapes_in entry_of t) key n 0 (2 ^ 64) root es ps → RiseIn 0 (2 ^ 64) (map key es)
      go es ps zero tree = tree.rises
      go es ps (suc n) tree = below-rise (IsTree (shapes_in entry_of t) key n) key (λ l h at fs qs below. tree-rise (shapes_in entry_of t) key n l h at fs qs below) 0 (2 ^ 64) tree.children es tree.below tree.rises tree.are
