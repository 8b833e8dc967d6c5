-- A tree in a file is one of shapes.
use Rattle.std.proofs.Common.{Bool, true, false, not, ◌≡◌, ℕ, zero, suc, ◌+◌, ◌-◌, ◌^◌, ◌%◌, ◌≤◌, ◌&&◌, length-drop, eqb, ltb, leb, inl, inr, if◌then◌else◌, List, [], ◌∷◌, ◌++◌, map, length, take, drop, refl, sym, ap, subst, ◌∙◌, arith, Option, Some, None, Result, Ok, Err}
use Rattle.std.proofs.lemmas.Bool.{eq-eqb, ne_eqb, le-leb, leb-true, eqb-true, and_parts, cases_lt, false≢true}
use Rattle.std.proofs.lemmas.List.{map-append, length-map, length-take-le}
use Rattle.pst_base.specs.declared.ids.Bref.{Bref}
use Rattle.pst_base.specs.declared.stops.PageFault.{PageFault}
use Rattle.pst_base.specs.Fields.{number_at}
use Rattle.btree_pages.specs.Entries.{inner_of}
use Rattle.btree_pages.specs.Pages.{Page, pieces, keys, ascend, is_counted, page_of, page_with}
use Rattle.btree_pages.proofs.PageLaws.{length-pieces}
use Rattle.pst_base.specs.declared.stops.PageFault.TheVariants.{Count, Level, Key}
use Rattle.file_layout.specs.declared.tree_pages.Seat.{Seat}
use Rattle.file_layout.specs.Trees.{FileTree, Found, both, page_alone, leaf_of, nothing, key_below, before_next, child_of, AreChildren, IsTreePage, IsTree as IsFileTree, IsWhole as IsFileWhole, root_seat, FilePage, is_placed, in_span, owed, page_in}
use Rattle.page_frame.specs.Page.{reading}
use Rattle.file_layout.proofs.SeatLaws.{page_in-owed, page_in-err, page_in-ok, page_in-key, ok_or_err}
use Rattle.tree_edit.specs.Shapes.{Shape, leaf, inner, RiseIn, heads, up_to, AreBelow, IsTree, IsRootOf, IsWhole}
use Rattle.tree_edit.specs.Pages.{child_in, shape_of, seen, shown, shapes}
use Rattle.file_pages.specs.InFile.{shapes_in, ok_of, body_at, IsShaped, IsUnshaped, IsShapedRoot, IsUnshapedRoot}
use Rattle.tree_edit.proofs.SpanLaws.{page-ascends, rises-in, spans-in}
use Rattle.tree_edit.proofs.StepLaws.{inner-shape, leaf-shape, same-heads, same-keys, shown-here}

-- the content of a page of a tree, and what is said of it
body-here : (t : FileTree) (seat : Seat) (page : Page) (here : IsTreePage t seat page) → body_at t seat.at ≡ Some here.body
body-here t seat page here =
    rw (le-leb 0x4400 seat.at.ib here.stands.above, eq-eqb (seat.at.ib % 64) 0 here.stands.multiple, le-leb (seat.at.ib + 512) t.eof here.stands.before, here.stands.framed.1) refl

pub record Seated (rule : ℕ → ℕ) (leaf : ℕ) (seat : Seat) (b : List ℕ) (page : Page) : Type 0 where
  pub reads : page_of rule leaf b ≡ Ok page
  pub owes : owed seat.level b ≡ None
  pub within : in_span seat.low seat.high (keys rule page.entries) ≡ true

seated : (rule : ℕ → ℕ) (leaf : ℕ) (seat : Seat) (b : List ℕ) (page : Page) → page_in rule leaf seat b ≡ Ok page → Seated rule leaf seat b page
seated rule leaf seat b page e = by_page (page_of rule leaf b) refl (owed seat.level b) refl
  where
    clash : (fault : PageFault) → page_in rule leaf seat b ≡ Err fault → ⊥
    clash fault h = let both_are : ◌≡◌ {A = Result Page PageFault} (Ok page) (Err fault) = sym e ∙ h in cc

    by_page : (r : Result Page PageFault) → page_of rule leaf b ≡ r → (o : Option PageFault) → owed seat.level b ≡ o → Seated rule leaf seat b page
    by_page (Err fault) is o ow = absurd (clash _ (page_in-err rule leaf seat b fault is))
    by_page (Ok got) is (Some fault) ow = absurd (clash fault (page_in-owed rule leaf seat b fault (ok_or_err got is) ow))
    by_page (Ok got) is None ow = by_span (in_span seat.low seat.high (keys rule got.entries)) refl
      where
        by_span : (x : Bool) → in_span seat.low seat.high (keys rule got.entries) ≡ x → Seated rule leaf seat b page
        by_span false out = absurd (clash _ (page_in-key rule leaf seat b got is ow out))
        by_span true within =
            let both_are : ◌≡◌ {A = Result Page PageFault} (Ok got) (Ok page) = sym (page_in-ok rule leaf seat b got is ow within) ∙ e in
            let same : got ≡ page = cc in
            subst (λ (p : Page). Seated rule leaf seat b p) same (record { reads = is; owes = ow; within = within })

seat-rises : (rule : ℕ → ℕ) (leaf : ℕ) (seat : Seat) (b : List ℕ) (page : Page) → Seated rule leaf seat b page → RiseIn seat.low (seat.high + 1) (keys rule page.entries)
seat-rises rule leaf seat b page s = rises-in seat.low seat.high (keys rule page.entries) (page-ascends rule leaf b page s.reads) s.within

with-count : (rule : ℕ → ℕ) (size level : ℕ) (b : List ℕ) (page : Page) → page_with rule size level b ≡ Ok page → length page.entries ≡ number_at 1 488 b
unfolding page_with
with-count rule size level b page e = by_cases (is_counted size b) (ltb 7 level) (ascend (keys rule (pieces size (number_at 1 488 b) b))) e
  where
    held : Page
    held = record { level = level; entries = pieces size (number_at 1 488 b) b }

    by_cases : (counted deep rising : Bool) → (if not counted then Err Count else (if deep then Err Level else (if not rising then Err Key else Ok held))) ≡ Ok page → length page.entries ≡ number_at 1 488 b
    by_cases false deep rising e = absurd (cc)
    by_cases true true rising e = absurd (cc)
    by_cases true false false e = absurd (cc)
    by_cases true false true e = let same : held ≡ page = cc in ap (λ (p : Page). length p.entries) (sym same) ∙ length-pieces size (number_at 1 488 b) b

page-count : (rule : ℕ → ℕ) (leaf : ℕ) (b : List ℕ) (page : Page) → page_of rule leaf b ≡ Ok page → length page.entries ≡ number_at 1 488 b
unfolding page_of
page-count rule leaf b page e = with-count rule _ _ b page e

some-count : (n : ℕ) (b : List ℕ) → owed (Some n) b ≡ None → 1 ≤ number_at 1 488 b
some-count n b e = by_zero (eqb (number_at 1 488 b) 0) refl e
  where
    by_zero : (empty : Bool) → eqb (number_at 1 488 b) 0 ≡ empty → (if empty then Some Count else (if not (eqb (number_at 1 491 b) n) then Some Level else None)) ≡ None → 1 ≤ number_at 1 488 b
    by_zero true is e = absurd (cc)
    by_zero false is e = elim (cases_lt 0 (number_at 1 488 b)) [ inl more ↦ more | inr none ↦ absurd (false≢true (sym is ∙ eq-eqb (number_at 1 488 b) 0 (omega arith))) ]

not-empty : (rule : ℕ → ℕ) (leaf : ℕ) (seat : Seat) (b : List ℕ) (page : Page) (n : ℕ) → seat.level ≡ Some n → Seated rule leaf seat b page → 1 ≤ length page.entries
not-empty rule leaf seat b page n wants s =
    let some = some-count n b (ap (λ (w : Option ℕ). owed w b) (sym wants) ∙ s.owes) in
    let count = page-count rule leaf b page s.reads in
    omega (arith, some, count)

shape-level : {E : Type 0} (rule : ℕ → ℕ) (entry_of : List ℕ → E) (page : Page) → (shape_of {E = E} rule entry_of page).level ≡ page.level
shape-level {E} rule entry_of page = go page.level refl
  where
    go : (n : ℕ) → page.level ≡ n → (shape_of {E = E} rule entry_of page).level ≡ page.level
    go zero e = ap (λ (s : Shape E). s.level) (leaf-shape rule entry_of page e) ∙ sym e
    go (suc n) e = ap (λ (s : Shape E). s.level) (inner-shape rule entry_of page n e) ∙ sym e

-- ---- from shapes to the file

record Read {E : Type 0} (rule : ℕ → ℕ) (leaf : ℕ) (entry_of : List ℕ → E) (find : Bref → Option (List ℕ)) (at : Bref) (shape : Shape E) : Type 0 where
  body : List ℕ
  page : Page
  found : find at ≡ Some body
  reads : page_of rule leaf body ≡ Ok page
  shows : shape_of rule entry_of page ≡ shape

read-here : {E : Type 0} (rule : ℕ → ℕ) (leaf : ℕ) (entry_of : List ℕ → E) (find : Bref → Option (List ℕ)) (at : Bref) (shape : Shape E) → shapes rule leaf entry_of find at ≡ Some shape → Read rule leaf entry_of find at shape
read-here {E} rule leaf entry_of find at shape e = by_body (find at) refl e
  where
    by_body : (o : Option (List ℕ)) → find at ≡ o → shown rule leaf entry_of o ≡ Some shape → Read rule leaf entry_of find at shape
    by_body None is e = absurd (cc)
    by_body (Some body) is e = by_page (page_of rule leaf body) refl e
      where
        by_page : (r : Result Page PageFault) → page_of rule leaf body ≡ r → seen rule entry_of r ≡ Some shape → Read rule leaf entry_of find at shape
        by_page (Err fault) reads e = absurd (cc)
        by_page (Ok page) reads e = record { body = body; page = page; found = is; reads = reads; shows = cc }

file-page : (t : FileTree) (at : Bref) (body : List ℕ) → t.eof ≤ length t.file → body_at t at ≡ Some body → FilePage t.file t.eof t.kind at body
file-page t at body whole e = by_place (is_placed t.eof at.ib) refl e
  where
    by_read : (r : Result (List ℕ) PageFault) → ok_of r ≡ Some body → r ≡ Ok body
    by_read (Ok b) e = ap Ok (cc)
    by_read (Err fault) e = absurd (cc)

    by_place : (p : Bool) → is_placed t.eof at.ib ≡ p → (if p then ok_of (reading t.kind at (take 512 (drop at.ib t.file))) else None) ≡ Some body → FilePage t.file t.eof t.kind at body
    by_place false is e = absurd (cc)
    by_place true is e =
        let place : (leb 0x4400 at.ib ≡ true) × (eqb (at.ib % 64) 0 && leb (at.ib + 512) t.eof ≡ true) = and_parts _ _ is in
        let rest : (eqb (at.ib % 64) 0 ≡ true) × (leb (at.ib + 512) t.eof ≡ true) = and_parts _ _ place.1 in
        let before : at.ib + 512 ≤ t.eof = leb-true (at.ib + 512) t.eof rest.1 in
        record {
          multiple = eqb-true (at.ib % 64) 0 rest.0;
          above = leb-true 0x4400 at.ib place.0;
          before = before;
          framed = (length-take-le 512 (drop at.ib t.file) (omega (arith, length-drop at.ib t.file, before, whole)), by_read (reading t.kind at (take 512 (drop at.ib t.file))) e);
        }

with-level : (rule : ℕ → ℕ) (size level : ℕ) (b : List ℕ) (page : Page) → page_with rule size level b ≡ Ok page → page.level ≡ level
unfolding page_with
with-level rule size level b page e = by_cases (is_counted size b) (ltb 7 level) (ascend (keys rule (pieces size (number_at 1 488 b) b))) e
  where
    held : Page
    held = record { level = level; entries = pieces size (number_at 1 488 b) b }

    by_cases : (counted deep rising : Bool) → (if not counted then Err Count else (if deep then Err Level else (if not rising then Err Key else Ok held))) ≡ Ok page → page.level ≡ level
    by_cases false deep rising e = absurd (cc)
    by_cases true true rising e = absurd (cc)
    by_cases true false false e = absurd (cc)
    by_cases true false true e = let same : held ≡ page = cc in ap (λ (p : Page). p.level) (sym same)

page-level : (rule : ℕ → ℕ) (leaf : ℕ) (b : List ℕ) (page : Page) → page_of rule leaf b ≡ Ok page → page.level ≡ number_at 1 491 b
unfolding page_of
page-level rule leaf b page e = with-level rule _ _ b page e

-- a page in a seat
tree-page : (t : FileTree) (seat : Seat) (body : List ℕ) (page : Page) (n : ℕ) → t.eof ≤ length t.file → body_at t seat.at ≡ Some body → page_of t.rule t.leaf body ≡ Ok page → seat.level ≡ Some n → page.level ≡ n
    → 1 ≤ length page.entries → RiseIn seat.low (seat.high + 1) (keys t.rule page.entries) → IsTreePage t seat page
tree-page t seat body page n whole found reads wants level some rises =
    let count = page-count t.rule t.leaf body page reads in
    let at_level : number_at 1 491 body ≡ n = sym (page-level t.rule t.leaf body page reads) ∙ level in
    let none : owed (Some n) body ≡ None = rw (ne_eqb (number_at 1 488 body) 0 (λ z. absurd (omega (arith, z, count, some))), eq-eqb (number_at 1 491 body) n at_level) refl in
    record {
      body = body;
      stands = file-page t seat.at body whole found;
      content = page_in-ok t.rule t.leaf seat body page reads (ap (λ (w : Option ℕ). owed w body) wants ∙ none) (spans-in seat.low seat.low seat.high (keys t.rule page.entries) (omega arith) rises);
    }

-- a root's page
root-page : (t : FileTree) (root : Bref) (body : List ℕ) (page : Page) → t.eof ≤ length t.file → body_at t root ≡ Some body → page_of t.rule t.leaf body ≡ Ok page
    → RiseIn 0 (2 ^ 64) (keys t.rule page.entries) → IsTreePage t (root_seat root) page
root-page t root body page whole found reads rises = record {
  body = body;
  stands = file-page t root body whole found;
  content = page_in-ok t.rule t.leaf (root_seat root) body page reads refl (spans-in 0 0 (2 ^ 64 - 1) (keys t.rule page.entries) (omega arith) rises);
}

-- ---- trees

module _ {E : Type 0} (entry_of : List ℕ → E) (key : E → ℕ) (t : FileTree) (law : (b : List ℕ) → key (entry_of b) ≡ t.rule (number_at 8 0 b)) where
  next-high : (high k : ℕ) (rest : List (List ℕ)) → RiseIn (k + 1) (high + 1) (heads (map (child_in t.rule) rest)) → before_next t.rule high rest + 1 ≡ up_to (high + 1) (map (child_in t.rule) rest)
  next-high high k [] r = refl
  next-high high k (b ∷ rest) r = let x = r.0 in omega arith

  shaped-children : (n high low : ℕ) → ((seat : Seat) (found : Found) → seat.level ≡ Some n → IsFileTree t n seat found → IsShaped entry_of key t n seat.low seat.high seat.at found)
      → (entries : List (List ℕ)) (found : Found) → RiseIn low (high + 1) (heads (map (child_in t.rule) entries)) → AreChildren (IsFileTree t n) t.rule n high entries found
      → AreBelow (IsTree (shapes_in entry_of t) key n) (high + 1) (map (child_in t.rule) entries) (map entry_of found.entries) found.pages
  shaped-children n high low each [] found r are = (ap (λ (f : Found). map entry_of f.entries) are, ap (λ (f : Found). f.pages) are)
  shaped-children n high low each (b ∷ rest) found r are =
      let one = each (child_of t.rule n high b rest) are.0 refl are.2 in
      let more = shaped-children n high (key_below t.rule b + 1) each rest are.1 r.2 are.3 in
      let top = next-high high (key_below t.rule b) rest r.2 in
      record {
        first = map entry_of (are.0).entries;
        later = map entry_of (are.1).entries;
        first_pages = (are.0).pages;
        later_pages = (are.1).pages;
        one = subst (λ (m : ℕ). IsTree (shapes_in entry_of t) key n (key_below t.rule b) m (inner_of b).page (map entry_of (are.0).entries) (are.0).pages) top one;
        rest = more;
        entries = ap (λ (f : Found). map entry_of f.entries) are.4 ∙ map-append entry_of (are.0).entries (are.1).entries;
        pages = ap (λ (f : Found). f.pages) are.4;
      }

  pub shaped : (n : ℕ) (seat : Seat) (found : Found) → seat.level ≡ Some n → IsFileTree t n seat found → IsShaped entry_of key t n seat.low seat.high seat.at found
  shaped zero seat found wants tree =
      let s = seated t.rule t.leaf seat tree.1.body tree.0 tree.1.content in
      let es : map entry_of (tree.0).entries ≡ map entry_of found.entries = sym (ap (λ (f : Found). map entry_of f.entries) tree.3) in
      subst (λ (l : List E). IsTree (shapes_in entry_of t) key zero seat.low (seat.high + 1) seat.at l found.pages) es (record {
        shown = shown-here t.rule t.leaf entry_of (body_at t) seat.at tree.1.body tree.0 (body-here t seat tree.0 tree.1) s.reads ∙ ap Some (leaf-shape t.rule entry_of tree.0 tree.2);
        rises = subst (RiseIn seat.low (seat.high + 1)) (sym (same-keys t.rule entry_of key law (tree.0).entries)) (seat-rises t.rule t.leaf seat tree.1.body tree.0 s);
        some = let n = not-empty t.rule t.leaf seat tree.1.body tree.0 0 wants s in let len = length-map (tree.0).entries entry_of in omega (arith, n, len);
        alone = ap (λ (f : Found). f.pages) tree.3;
      })
  shaped (suc n) seat found wants tree =
      let s = seated t.rule t.leaf seat tree.2.body tree.0 tree.2.content in
      let rises = subst (RiseIn seat.low (seat.high + 1)) (sym (same-heads t.rule (tree.0).entries)) (seat-rises t.rule t.leaf seat tree.2.body tree.0 s) in
      let below = shaped-children n seat.high seat.low (λ child got w h. shaped n child got w h) (tree.0).entries tree.1 rises tree.4 in
      let es : map entry_of (tree.1).entries ≡ map entry_of found.entries = sym (ap (λ (f : Found). map entry_of f.entries) tree.5) in
      subst (λ (l : List E). IsTree (shapes_in entry_of t) key (suc n) seat.low (seat.high + 1) seat.at l found.pages) es (record {
        children = map (child_in t.rule) (tree.0).entries;
        below = (tree.1).pages;
        shown = shown-here t.rule t.leaf entry_of (body_at t) seat.at tree.2.body tree.0 (body-here t seat tree.0 tree.2) s.reads ∙ ap Some (inner-shape t.rule entry_of tree.0 n tree.3);
        rises = rises;
        some = let m = not-empty t.rule t.leaf seat tree.2.body tree.0 (suc n) wants s in let len = length-map (tree.0).entries (child_in t.rule) in omega (arith, m, len);
        are = below;
        first = ap (λ (f : Found). f.pages) tree.5;
      })

  unshaped-children : (n high low : ℕ) → ((seat : Seat) (es : List E) (ps : List Bref) → seat.level ≡ Some n → IsTree (shapes_in entry_of t) key n seat.low (seat.high + 1) seat.at es ps → IsUnshaped entry_of t n seat es ps)
      → (entries : List (List ℕ)) (es : List E) (ps : List Bref) → RiseIn low (high + 1) (heads (map (child_in t.rule) entries)) → AreBelow (IsTree (shapes_in entry_of t) key n) (high + 1) (map (child_in t.rule) entries) es ps
      → (found : Found) × AreChildren (IsFileTree t n) t.rule n high entries found × (map entry_of found.entries ≡ es) × (found.pages ≡ ps)
  unshaped-children n high low each [] es ps r a = (nothing, refl, sym a.0, sym a.1)
  unshaped-children n high low each (b ∷ rest) es ps r a =
      let top = next-high high (key_below t.rule b) rest r.2 in
      let one = each (child_of t.rule n high b rest) a.first a.first_pages refl (subst (λ (m : ℕ). IsTree (shapes_in entry_of t) key n (key_below t.rule b) m (inner_of b).page a.first a.first_pages) (sym top) a.one) in
      let more = unshaped-children n high (key_below t.rule b + 1) each rest a.later a.later_pages r.2 a.rest in (
        both one.found more.0,
        (one.found, more.0, one.tree, more.1, refl),
        map-append entry_of (one.found).entries (more.0).entries ∙ ap (λ (l : List E). l ++ map entry_of (more.0).entries) one.entries ∙ ap (λ (l : List E). a.first ++ l) more.2 ∙ sym a.entries,
        ap (λ (l : List Bref). l ++ (more.0).pages) one.pages ∙ ap (λ (l : List Bref). a.first_pages ++ l) more.3 ∙ sym a.pages,
      )

  pub unshaped : (n : ℕ) (seat : Seat) (es : List E) (ps : List Bref) → t.eof ≤ length t.file → seat.level ≡ Some n → IsTree (shapes_in entry_of t) key n seat.low (seat.high + 1) seat.at es ps → IsUnshaped entry_of t n seat es ps
  unshaped zero seat es ps whole wants tree =
      let r = read-here t.rule t.leaf entry_of (body_at t) seat.at (leaf es) tree.shown in
      let level : r.page.level ≡ 0 = sym (shape-level {E = E} t.rule entry_of r.page) ∙ ap (λ (s : Shape E). s.level) r.shows in
      let entries : map entry_of r.page.entries ≡ es = ap (λ (s : Shape E). s.entries) (sym (leaf-shape t.rule entry_of r.page level) ∙ r.shows) in
      let rises = subst (RiseIn seat.low (seat.high + 1)) (ap (map key) (sym entries) ∙ same-keys t.rule entry_of key law r.page.entries) tree.rises in
      let len = length-map r.page.entries entry_of in
      let same = ap (λ (l : List E). length l) entries in
      let some = tree.some in
      record {
        found = both (page_alone seat) (leaf_of r.page.entries);
        tree = (r.page, tree-page t seat r.body r.page 0 whole r.found r.reads wants level (omega (arith, len, same, some)) rises, level, refl);
        entries = entries;
        pages = sym tree.alone;
      }
  unshaped (suc n) seat es ps whole wants tree =
      let r = read-here t.rule t.leaf entry_of (body_at t) seat.at (inner (suc n) tree.children) tree.shown in
      let level : r.page.level ≡ suc n = sym (shape-level {E = E} t.rule entry_of r.page) ∙ ap (λ (s : Shape E). s.level) r.shows in
      let kids : tree.children ≡ map (child_in t.rule) r.page.entries = ap (λ (s : Shape E). s.children) (sym r.shows ∙ inner-shape t.rule entry_of r.page n level) in
      let rises = subst (λ (l : List (ℕ × Bref)). RiseIn seat.low (seat.high + 1) (heads l)) kids tree.rises in
      let below = unshaped-children n seat.high seat.low (λ child got qs w h. unshaped n child got qs whole w h) r.page.entries es tree.below rises (subst (λ (l : List (ℕ × Bref)). AreBelow (IsTree (shapes_in entry_of t) key n) (seat.high + 1) l es tree.below) kids tree.are) in
      let len = length-map r.page.entries (child_in t.rule) in
      let same = ap (λ (l : List (ℕ × Bref)). length l) kids in
      let some = tree.some in
      record {
        found = both (page_alone seat) below.0;
        tree = (r.page, below.0, tree-page t seat r.body r.page (suc n) whole r.found r.reads wants level (omega (arith, len, same, some)) (subst (RiseIn seat.low (seat.high + 1)) (same-heads t.rule r.page.entries) rises), level, below.1, refl);
        entries = below.2;
        pages = ap (λ (l : List Bref). seat.at ∷ l) below.3 ∙ sym tree.first;
      }

  shaped-at : (n : ℕ) (root : Bref) (found : Found) → n ≤ 7 → IsFileTree t n (root_seat root) found → IsShapedRoot entry_of key t root found
  shaped-at zero root found low tree =
      let seat : Seat = root_seat root in
      let s = seated t.rule t.leaf seat tree.1.body tree.0 tree.1.content in
      let es : map entry_of (tree.0).entries ≡ map entry_of found.entries = sym (ap (λ (f : Found). map entry_of f.entries) tree.3) in
      record {
        level = 0;
        low_enough = low;
        tree = subst (λ (l : List E). IsRootOf (shapes_in entry_of t) key zero 0 (2 ^ 64) root l found.pages) es (record {
          shown = shown-here t.rule t.leaf entry_of (body_at t) root tree.1.body tree.0 (body-here t seat tree.0 tree.1) s.reads ∙ ap Some (leaf-shape t.rule entry_of tree.0 tree.2);
          rises = subst (RiseIn 0 (2 ^ 64)) (sym (same-keys t.rule entry_of key law (tree.0).entries)) (seat-rises t.rule t.leaf seat tree.1.body tree.0 s);
          some = omega arith;
          alone = ap (λ (f : Found). f.pages) tree.3;
        });
      }
  shaped-at (suc n) root found low tree =
      let seat : Seat = root_seat root in
      let s = seated t.rule t.leaf seat tree.2.body tree.0 tree.2.content in
      let rises = subst (RiseIn 0 (2 ^ 64)) (sym (same-heads t.rule (tree.0).entries)) (seat-rises t.rule t.leaf seat tree.2.body tree.0 s) in
      let below = shaped-children n (2 ^ 64 - 1) 0 (λ child got w h. shaped n child got w h) (tree.0).entries tree.1 rises tree.4 in
      let es : map entry_of (tree.1).entries ≡ map entry_of found.entries = sym (ap (λ (f : Found). map entry_of f.entries) tree.5) in
      record {
        level = suc n;
        low_enough = low;
        tree = subst (λ (l : List E). IsRootOf (shapes_in entry_of t) key (suc n) 0 (2 ^ 64) root l found.pages) es (record {
          children = map (child_in t.rule) (tree.0).entries;
          below = (tree.1).pages;
          shown = shown-here t.rule t.leaf entry_of (body_at t) root tree.2.body tree.0 (body-here t seat tree.0 tree.2) s.reads ∙ ap Some (inner-shape t.rule entry_of tree.0 n tree.3);
          rises = rises;
          some = omega arith;
          are = below;
          first = ap (λ (f : Found). f.pages) tree.5;
        });
      }

  -- the tree of a root in a file is one of shapes
  pub shaped-root : (root : Bref) (found : Found) → IsFileWhole t root found → IsShapedRoot entry_of key t root found
  shaped-root root found is = shaped-at is.level root found is.low_enough is.tree

  unshaped-at : (n : ℕ) (root : Bref) (es : List E) (ps : List Bref) → t.eof ≤ length t.file → n ≤ 7 → IsRootOf (shapes_in entry_of t) key n 0 (2 ^ 64) root es ps → IsUnshapedRoot entry_of t root es ps
  unshaped-at zero root es ps whole low tree =
      let r = read-here t.rule t.leaf entry_of (body_at t) root (leaf es) tree.shown in
      let level : r.page.level ≡ 0 = sym (shape-level {E = E} t.rule entry_of r.page) ∙ ap (λ (s : Shape E). s.level) r.shows in
      let entries : map entry_of r.page.entries ≡ es = ap (λ (s : Shape E). s.entries) (sym (leaf-shape t.rule entry_of r.page level) ∙ r.shows) in
      let rises = subst (RiseIn 0 (2 ^ 64)) (ap (map key) (sym entries) ∙ same-keys t.rule entry_of key law r.page.entries) tree.rises in
      record {
        found = both (page_alone (root_seat root)) (leaf_of r.page.entries);
        tree = record { level = 0; low_enough = low; tree = (r.page, root-page t root r.body r.page whole r.found r.reads rises, level, refl) };
        entries = entries;
        pages = sym tree.alone;
      }
  unshaped-at (suc n) root es ps whole low tree =
      let r = read-here t.rule t.leaf entry_of (body_at t) root (inner (suc n) tree.children) tree.shown in
      let level : r.page.level ≡ suc n = sym (shape-level {E = E} t.rule entry_of r.page) ∙ ap (λ (s : Shape E). s.level) r.shows in
      let kids : tree.children ≡ map (child_in t.rule) r.page.entries = ap (λ (s : Shape E). s.children) (sym r.shows ∙ inner-shape t.rule entry_of r.page n level) in
      let rises = subst (λ (l : List (ℕ × Bref)). RiseIn 0 (2 ^ 64) (heads l)) kids tree.rises in
      let below = unshaped-children n (2 ^ 64 - 1) 0 (λ child got qs w h. unshaped n child got qs whole w h) r.page.entries es tree.below rises (subst (λ (l : List (ℕ × Bref)). AreBelow (IsTree (shapes_in entry_of t) key n) (2 ^ 64) l es tree.below) kids tree.are) in
      record {
        found = both (page_alone (root_seat root)) below.0;
        tree = record {
          level = suc n;
          low_enough = low;
          tree = (r.page, below.0, root-page t root r.body r.page whole r.found r.reads (subst (RiseIn 0 (2 ^ 64)) (same-heads t.rule r.page.entries) rises), level, below.1, refl);
        };
        entries = below.2;
        pages = ap (λ (l : List Bref). root ∷ l) below.3 ∙ sym tree.first;
      }

  -- and the other way round
  pub unshaped-root : (root : Bref) (es : List E) (ps : List Bref) → t.eof ≤ length t.file → IsWhole (shapes_in entry_of t) key root es ps → IsUnshapedRoot entry_of t root es ps
  unshaped-root root es ps whole is = unshaped-at is.level root es ps whole is.low_enough is.tree
