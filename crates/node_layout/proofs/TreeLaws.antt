-- A tree of a file after edits stands in the file that has its new pages.
use Rattle.std.proofs.Common.{◌≡◌, ◌∙◌, inl, inr, ℕ, ◌+◌, ◌%◌, ◌≤◌, eqb, List, [], ◌∷◌, ◌++◌, map, length, Option, refl, ap, subst, arith, if◌then◌else◌}
use Rattle.std.proofs.lemmas.Bool.{cases_eq, eq-eqb, ne_eqb, le-leb}
use Rattle.pst_base.specs.declared.ids.Bref.{Bref}
use Rattle.pst_base.specs.declared.places.Place.{Place}
use Rattle.pst_base.specs.Fields.{number_at}
use Rattle.file_layout.specs.Trees.{IsPlace, page_place, page_places}
use Rattle.file_layout.specs.Trees.{FileTree, Found, root_seat, IsWhole as IsFileWhole}
use Rattle.lays_kept.specs.Kept.{Each, SameAt}
use Rattle.lays_kept.specs.Moved.{moved}
use Rattle.alloc_map.specs.Tally.{one_at, tally as slot_tally}
use Rattle.lays_kept.proofs.Places.{tree_places}
use Rattle.tree_edit.specs.Shapes.{Shape, IsWhole}
use Rattle.tree_edit.specs.Edits.{edited}
use Rattle.tree_edit.specs.declared.plan.Child.{Child}
use Rattle.tree_edit.specs.declared.plan.PlanPage.{PlanPage}
use Rattle.tree_edit.specs.Plans.{tally, names, resolve, AreKept, AreShown, IsPlan}
use Rattle.tree_edit.proofs.PlanLaws.{tally-join}
use Rattle.file_pages.specs.InFile.{shapes_in}
use Rattle.node_layout.specs.Changed.{IsChangedTree}
use Rattle.file_pages.proofs.Bridge.{shaped-root, unshaped-root}

-- ---- lists of pages that name the same places

abbrev pub sum_at : (ℕ → ℕ) → List Bref → ℕ
sum_at f [] = 0
sum_at f (p ∷ ps) = f p.ib + sum_at f ps

sum_at-append : (f : ℕ → ℕ) (xs ys : List Bref) → sum_at f (xs ++ ys) ≡ sum_at f xs + sum_at f ys
sum_at-append f [] ys = omega arith
sum_at-append f (x ∷ xs) ys = let h = sum_at-append f xs ys in omega (arith, h)

-- the list without one page at a place
record Without (f : ℕ → ℕ) (ib : ℕ) (ys : List Bref) : Type 0 where
  rest : List Bref
  counts : (k : ℕ) → tally k ys ≡ (if eqb ib k then 1 else 0) + tally k rest
  sums : sum_at f ys ≡ f ib + sum_at f rest

without : (f : ℕ → ℕ) (ib : ℕ) (ys : List Bref) → 1 ≤ tally ib ys → Without f ib ys
without f ib [] some = absurd (omega (arith, some))
without f ib (y ∷ ys) some = elim (cases_eq y.ib ib) [
  | inl same ↦ record { rest = ys; counts = λ k. ap (λ (m : ℕ). (if eqb m k then 1 else 0) + tally k ys) same; sums = ap (λ (m : ℕ). f m + sum_at f ys) same }
  | inr other ↦
      let none : ◌≡◌ {A = ℕ} (if eqb y.ib ib then 1 else 0) 0 = rw (ne_eqb y.ib ib other) refl in
      let w = without f ib ys (omega (arith, some, none)) in
      record { rest = y ∷ w.rest; counts = λ k. let h = w.counts k in omega (arith, h); sums = let h = w.sums in omega (arith, h) }
]

here : (y : Bref) (ys : List Bref) → 1 ≤ tally y.ib (y ∷ ys)
here y ys = let e : ◌≡◌ {A = ℕ} (if eqb y.ib y.ib then 1 else 0) 1 = rw (eq-eqb y.ib y.ib refl) refl in omega (arith, e)

-- lists that name each place equally often have equal sums
pub same-sums : (f : ℕ → ℕ) (xs ys : List Bref) → ((k : ℕ) → tally k xs ≡ tally k ys) → sum_at f xs ≡ sum_at f ys
same-sums f [] [] same = refl
same-sums f [] (y ∷ ys) same = let a = same y.ib in let b = here y ys in absurd (omega (arith, a, b))
same-sums f (x ∷ xs) ys same =
    let a = same x.ib in
    let b = here x xs in
    let w = without f x.ib ys (omega (arith, a, b)) in
    let more = same-sums f xs w.rest (λ k. let c = same k in let d = w.counts k in omega (arith, c, d)) in
    let e = w.sums in
    omega (arith, more, e)

slots-sum : (slot : ℕ) (ps : List Bref) → slot_tally slot (map page_place ps) ≡ sum_at (λ ib. one_at slot (record { ib = ib; len = 512 })) ps
slots-sum slot [] = refl
slots-sum slot (p ∷ ps) = ap (λ (n : ℕ). one_at slot (page_place p) + n) (slots-sum slot ps)

-- ---- pages that stay

-- a page shows the same in a file with the same bytes there, and under a later end
shape-same : {E : Type 0} (entry_of : List ℕ → E) (t : FileTree) (new : List ℕ) (more : ℕ) (at : Bref) → t.eof ≤ more → IsPlace t.eof (page_place at) → SameAt t.file new (page_place at)
    → shapes_in entry_of (moved t new more) at ≡ shapes_in entry_of t at
shape-same entry_of t new more at longer place same =
    let x = place.above in
    let y = place.before in
    rw (le-leb 0x4400 at.ib x, eq-eqb (at.ib % 64) 0 place.start, le-leb (at.ib + 512) more (omega (arith, y, longer)), le-leb (at.ib + 512) t.eof y, same) refl

-- what is known of each place of some pages is known of each page at one of these places
of-tally : (P : Place → Type 0) (ps : List Bref) (ib : ℕ) → Each P (map page_place ps) → 1 ≤ tally ib ps → P (record { ib = ib; len = 512 })
of-tally P [] ib all some = absurd (omega (arith, some))
of-tally P (p ∷ ps) ib all some = elim (cases_eq p.ib ib) [
  | inl same ↦ subst (λ (k : ℕ). P (record { ib = k; len = 512 })) same all.0
  | inr other ↦ let none : ◌≡◌ {A = ℕ} (if eqb p.ib ib then 1 else 0) 0 = rw (ne_eqb p.ib ib other) refl in of-tally P ps ib all.1 (omega (arith, some, none))
]

kept-in : {E : Type 0} (old after : Bref → Option (Shape E)) (qs kept ps : List Bref) → ((ib : ℕ) → tally ib qs + tally ib kept ≤ tally ib ps) → ((at : Bref) → 1 ≤ tally at.ib ps → after at ≡ old at) → AreKept old after kept
kept-in old after qs [] ps counted same = tt
kept-in old after qs (k ∷ kept) ps counted same =
    let a = counted k.ib in
    let b = here k kept in
    (same k (omega (arith, a, b)), kept-in old after (k ∷ qs) kept ps (λ ib. let c = counted ib in omega (arith, c)) same)

-- ---- the whole

module _ {E : Type 0} (entry_of : List ℕ → E) (key : E → ℕ) (t : FileTree) (law : (b : List ℕ) → key (entry_of b) ≡ t.rule (number_at 8 0 b)) where
  pub tree-changed : (new : List ℕ) (more : ℕ) (root : Bref) (old : Found) → IsFileWhole t root old → t.eof ≤ more → more ≤ length new → Each (SameAt t.file new) (page_places old)
      → (pages : List (PlanPage E)) (freed : List Bref) (top : Child) (name : ℕ → Bref) (ds : List (ℕ × Option E))
      → ((es : List E) (ps : List Bref) → IsWhole (shapes_in entry_of t) key root es ps → IsPlan (shapes_in entry_of t) key pages freed top (edited key es ds) ps)
      → AreShown (shapes_in entry_of (moved t new more)) name 0 pages
      → IsChangedTree entry_of key t new more old pages freed top name ds
  tree-changed new more root old whole longer long same pages freed top name ds plans shown =
      let s = shaped-root entry_of key t law root old whole in
      let plan = plans (map entry_of old.entries) old.pages s in
      let stand : Each (IsPlace t.eof) (page_places old) = tree_places t whole.level (root_seat root) old whole.tree in
      let kept = kept-in (shapes_in entry_of t) (shapes_in entry_of (moved t new more)) freed plan.kept old.pages (λ ib. let c = plan.counted ib in omega (arith, c))
      (λ at some. shape-same entry_of t new more at longer (of-tally (IsPlace t.eof) old.pages at.ib stand some) (of-tally (SameAt t.file new) old.pages at.ib same some)) in
      let after = plan.tree (shapes_in entry_of (moved t new more)) name kept shown in
      let u = unshaped-root entry_of key (moved t new more) law (resolve name top) (edited key (map entry_of old.entries) ds) after.0 long after.1 in
      record {
        found = u.found;
        tree = u.tree;
        entries = u.entries;
        named = λ ib.
            let a = plan.counted ib in let b = after.2 ib in let c = ap (tally ib) u.pages in omega (arith, a, b, c);
        places = λ slot.
            let f : ℕ → ℕ = λ ib. one_at slot (record { ib = ib; len = 512 }) in
            let counts : (k : ℕ) → tally k (after.0 ++ freed) ≡ tally k (old.pages ++ names name 0 pages) = λ k.
            let a = plan.counted k in let b = after.2 k in let c = tally-join k after.0 freed in let d = tally-join k old.pages (names name 0 pages) in omega (arith, a, b, c, d) in
            let sums = same-sums f (after.0 ++ freed) (old.pages ++ names name 0 pages) counts in
            let one = sum_at-append f after.0 freed in
            let two = sum_at-append f old.pages (names name 0 pages) in
            let three : slot_tally slot (page_places u.found) ≡ sum_at f after.0 = ap (λ (ps : List Bref). slot_tally slot (map page_place ps)) u.pages ∙ slots-sum slot after.0 in
            let four : slot_tally slot (page_places old) ≡ sum_at f old.pages = slots-sum slot old.pages in
            let five = slots-sum slot freed in
            let six = slots-sum slot (names name 0 pages) in
            omega (arith, sums, one, two, three, four, five, six);
      }
