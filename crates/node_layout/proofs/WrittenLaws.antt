-- Pages that stand as they were written show what was planned.
use Rattle.std.proofs.Common.{Bool, true, ◌≡◌, ◌∙◌, ℕ, ◌+◌, ◌%◌, ◌≤◌, List, [], ◌∷◌, map, length, take, drop, Some, None, Ok, refl, sym, ap, arith, if◌then◌else◌}
use Rattle.std.proofs.lemmas.Bool.{eq-eqb, ne_eqb, le-leb}
use Rattle.pst_base.specs.declared.ids.Bref.{Bref}
use Rattle.page_frame.specs.Page.{reading}
use Rattle.btree_pages.specs.declared.inner.Inner.{Inner}
use Rattle.btree_pages.specs.Entries.{inner_of, inner_bytes, InnerFits}
use Rattle.btree_pages.specs.EntryLaws.{inner_of-inner_bytes}
use Rattle.btree_pages.specs.Pages.{page_of}
use Rattle.file_layout.specs.Trees.{IsPlace, page_place}
use Rattle.file_layout.specs.Trees.{FileTree, is_placed}
use Rattle.lays_kept.specs.declared.Piece.{Piece}
use Rattle.lays_kept.specs.Kept.{Each}
use Rattle.tree_edit.specs.Shapes.{leaf, inner}
use Rattle.tree_edit.specs.declared.plan.PlanPage.{PlanPage}
use Rattle.tree_edit.specs.Pages.{seen, shown, child_in}
use Rattle.tree_edit.specs.Plans.{AreShown, names, shape_in}
use Rattle.file_pages.specs.InFile.{shapes_in, ok_of, body_at}
use Rattle.node_layout.specs.Pieces.{EachStands}
use Rattle.node_layout.specs.Lookups.{Each as EachOf}
use Rattle.node_layout.specs.Written.{IsWritten, AreWritten}

one-shown : {E : Type 0} (entry_of : List ℕ → E) (t : FileTree) (name : ℕ → Bref) (at : Bref) (page : PlanPage E) (piece : Piece) → IsWritten t.rule t.leaf entry_of t.kind name at page piece → IsPlace t.eof (page_place at)
    → take (length piece.bytes) (drop piece.at t.file) ≡ piece.bytes → shapes_in entry_of t at ≡ Some (shape_in name page)
one-shown entry_of t name at page piece is place stands =
    let x = place.above in
    let y = place.before in
    let here : take 512 (drop at.ib t.file) ≡ piece.bytes = ap (λ (n : ℕ). take n (drop at.ib t.file)) (sym is.sealed.0) ∙ ap (λ (k : ℕ). take (length piece.bytes) (drop k t.file)) (sym is.place) ∙ stands in
    let placed : is_placed t.eof at.ib ≡ true = rw (le-leb 0x4400 at.ib x, eq-eqb (at.ib % 64) 0 place.start, le-leb (at.ib + 512) t.eof y) refl in
    let body : body_at t at ≡ Some is.body =
    ap (λ (b : Bool). if b then ok_of (reading t.kind at (take 512 (drop at.ib t.file))) else None) placed ∙ ap (λ (b : List ℕ). ok_of (reading t.kind at b)) here ∙ ap ok_of is.sealed.1 in
    ap (shown t.rule t.leaf entry_of) body ∙ is.shows

-- all pages of a plan
pub pages-shown : {E : Type 0} (entry_of : List ℕ → E) (t : FileTree) (name : ℕ → Bref) (from : ℕ) (pages : List (PlanPage E)) (pieces : List Piece) → AreWritten t.rule t.leaf entry_of t.kind name from pages pieces
    → Each (IsPlace t.eof) (map page_place (names name from pages)) → EachStands t.file pieces → AreShown (shapes_in entry_of t) name from pages
pages-shown entry_of t name from [] pieces are places stands = tt
pages-shown entry_of t name from (p ∷ ps) [] are places stands = absurd are
pages-shown entry_of t name from (p ∷ ps) (q ∷ qs) are places stands =
    (one-shown entry_of t name (name from) p q are.0 places.0 stands.0, pages-shown entry_of t name (from + 1) ps qs are.1 places.1 stands.1)

-- ---- what a written page shows

read-back : {E : Type 0} (bytes : E → List ℕ) (entry_of : List ℕ → E) (fits : E → Type 0) → ((e : E) → fits e → entry_of (bytes e) ≡ e) → (es : List E) → EachOf fits es → map entry_of (map bytes es) ≡ es
read-back bytes entry_of fits law [] all = refl
read-back {E} bytes entry_of fits law (e ∷ es) all = ap (λ (x : E). x ∷ map entry_of (map bytes es)) (law e all.0) ∙ ap (λ (l : List E). e ∷ l) (read-back bytes entry_of fits law es all.1)

-- a leaf of entries that fit their fields
pub leaf-shows : {E : Type 0} (rule : ℕ → ℕ) (size : ℕ) (bytes : E → List ℕ) (entry_of : List ℕ → E) (fits : E → Type 0) → ((e : E) → fits e → entry_of (bytes e) ≡ e) → (body : List ℕ) (es : List E) → EachOf fits es
    → page_of rule size body ≡ Ok (record { level = 0; entries = map bytes es }) → seen rule entry_of (page_of rule size body) ≡ Some (leaf es)
leaf-shows {E} rule size bytes entry_of fits law body es all reads = ap (seen rule entry_of) reads ∙ ap (λ (l : List E). Some (leaf l)) (read-back bytes entry_of fits law es all)

-- the entries of an inner page
abbrev pub inners : List (ℕ × Bref) → List Inner
inners cs = map (λ c. record { key = c.0; page = c.1 }) cs

-- a child whose numbers fit, and whose key the tree's rule leaves
pub record ChildFits (rule : ℕ → ℕ) (c : ℕ × Bref) : Type 0 where
  pub fits : InnerFits (record { key = c.0; page = c.1 })
  pub steady : rule c.0 ≡ c.0

children-back : (rule : ℕ → ℕ) (cs : List (ℕ × Bref)) → EachOf (ChildFits rule) cs → map (child_in rule) (map inner_bytes (inners cs)) ≡ cs
children-back rule [] all = refl
children-back rule (c ∷ cs) all =
    let x : Inner = record { key = c.0; page = c.1 } in
    let back : inner_of (inner_bytes x) ≡ x = inner_of-inner_bytes x all.0.fits in
    let one : child_in rule (inner_bytes x) ≡ c = ap (λ (i : Inner). (rule i.key, i.page)) back ∙ ap (λ (k : ℕ). (k, c.1)) all.0.steady in
    ap (λ (d : ℕ × Bref). d ∷ map (child_in rule) (map inner_bytes (inners cs))) one ∙ ap (λ (l : List (ℕ × Bref)). c ∷ l) (children-back rule cs all.1)

-- an inner page of such children
pub inner-shows : {E : Type 0} (rule : ℕ → ℕ) (size : ℕ) (entry_of : List ℕ → E) (body : List ℕ) (level : ℕ) (cs : List (ℕ × Bref)) → 1 ≤ level → EachOf (ChildFits rule) cs
    → page_of rule size body ≡ Ok (record { level = level; entries = map inner_bytes (inners cs) }) → seen rule entry_of (page_of rule size body) ≡ Some (inner {E = E} level cs)
inner-shows {E} rule size entry_of body level cs some all reads =
    ap (seen rule entry_of) reads
    ∙ ap (λ (b : Bool). Some (if b then leaf (map entry_of (map inner_bytes (inners cs))) else inner {E = E} level (map (child_in rule) (map inner_bytes (inners cs))))) (ne_eqb level 0 (λ z. absurd (omega (arith, z, some))))
    ∙ ap (λ (l : List (ℕ × Bref)). Some (inner {E = E} level l)) (children-back rule cs all)
