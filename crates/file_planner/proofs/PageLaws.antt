-- The pages of a tree after edits: how many there are, and their ids.
use Rattle.std.proofs.Common.{Bool, true, false, ◌≡◌, ◌∙◌, inl, inr, ℕ, zero, suc, ◌+◌, ◌^◌, ◌<◌, ◌≤◌, eqb, List, [], ◌∷◌, ◌++◌, length, map, take, drop, Option, Some, None, Result, Ok, Err, refl, sym, ap, subst, arith, if◌then◌else◌, length-append}
use Rattle.std.proofs.lemmas.Bool.{cases_eq, eq-eqb, ne_eqb}
use Rattle.pst_base.specs.declared.ids.Bref.{Bref}
use Rattle.pst_base.specs.declared.places.Place.{Place}
use Rattle.pst_base.specs.declared.stops.PageFault.{PageFault}
use Rattle.pst_base.specs.Fields.{number_at}
use Rattle.pst_header.specs.declared.header.Header.{Header}
use Rattle.page_frame.specs.Page.{reading}
use Rattle.page_frame.proofs.PageLaws.{passed-reading}
use Rattle.file_layout.specs.declared.tree_pages.Seat.{Seat}
use Rattle.file_layout.specs.Numbers.{next_page, past_pages}
use Rattle.file_layout.specs.Trees.{AreChildren, FileTree, Found, IsTree, IsWhole as IsFileWhole, child_of, is_placed, page_place, page_places, root_seat}
use Rattle.lays_kept.specs.Kept.{Each as EachPlace, SameAt}
use Rattle.lays_kept.specs.Moved.{moved}
use Rattle.tree_edit.specs.declared.plan.Child.{Child}
use Rattle.tree_edit.specs.declared.plan.PlanPage.{PlanPage}
use Rattle.tree_edit.specs.Plans.{AreShown, names, resolve, shape_in, tally}
use Rattle.tree_edit.specs.Shapes.{Shape}
use Rattle.tree_edit.specs.Pages.{shown}
use Rattle.tree_edit.proofs.PlanLaws.{tally-join}
use Rattle.file_pages.specs.InFile.{body_at, ok_of, shapes_in}
use Rattle.node_layout.specs.Changed.{IsChangedTree}
use Rattle.node_layout.specs.Lookups.{Each}
use Rattle.plan_drawing.proofs.FileLaws.{same-length}

-- ---- how many pages

pub names-count : {E : Type 0} (name : ℕ → Bref) (from : ℕ) (pages : List (PlanPage E)) → length (names name from pages) ≡ length pages
names-count name from [] = refl
names-count name from (p ∷ pages) = let h = names-count name (from + 1) pages in omega (arith, h)

pub pages-count : {E : Type 0} {entry_of : List ℕ → E} {key : E → ℕ} {t : FileTree} {new : List ℕ} {more : ℕ} {old : Found} {pages : List (PlanPage E)} {freed : List Bref} {top : Child} {name : ℕ → Bref} {ds : List (ℕ × Option E)}
    → (is : IsChangedTree entry_of key t new more old pages freed top name ds) → length (is.found).pages + length freed ≡ length old.pages + length pages
pages-count {E} {entry_of} {key} {t} {new} {more} {old} {pages} {freed} {top} {name} {ds} is =
    let same = same-length ((is.found).pages ++ freed) (old.pages ++ names name 0 pages)
    (λ k. let a = is.named k in let b = tally-join k (is.found).pages freed in let c = tally-join k old.pages (names name 0 pages) in omega (arith, a, b, c)) in
    let one = length-append (is.found).pages freed in
    let two = length-append old.pages (names name 0 pages) in
    let three = names-count name 0 pages in
    omega (arith, same, one, two, three)

-- ---- the ids in pages

-- the id that is stored in the bytes at a place
abbrev pub id_at : List ℕ → Place → ℕ
id_at file p = number_at 8 504 (take p.len (drop p.ib file))

-- the page's id is stored in it
abbrev pub HasId : List ℕ → Bref → Type 0
HasId file at = id_at file (page_place at) ≡ (at.bid).bits

each-append : (P : Bref → Type 0) (xs ys : List Bref) → Each P xs → Each P ys → Each P (xs ++ ys)
each-append P [] ys a b = b
each-append P (x ∷ xs) ys a b = (a.0, each-append P xs ys a.1 b)

reading-id : (kind : ℕ) (at : Bref) (b x : List ℕ) → reading kind at b ≡ Ok x → number_at 8 504 b ≡ (at.bid).bits
reading-id kind at b x is = ((passed-reading kind at b x is).0).bid

children-ids : (P : Seat → Found → Type 0) (S : Bref → Type 0) → ((seat : Seat) (found : Found) → P seat found → Each S found.pages)
    → (rule : ℕ → ℕ) (n high : ℕ) (entries : List (List ℕ)) (found : Found) → AreChildren P rule n high entries found → Each S found.pages
children-ids P S step rule n high [] found is = subst (λ (f : Found). Each S f.pages) (sym is) tt
children-ids P S step rule n high (entry ∷ rest) found is =
    subst (λ (f : Found). Each S f.pages) (sym is.4)
    (each-append S is.0.pages is.1.pages (step (child_of rule n high entry rest) is.0 is.2) (children-ids P S step rule n high rest is.1 is.3))

-- each page of a tree has its id
pub tree-ids : (t : FileTree) (n : ℕ) (seat : Seat) (found : Found) → IsTree t n seat found → Each (HasId t.file) found.pages
tree-ids t zero seat found is = subst (λ (f : Found). Each (HasId t.file) f.pages) (sym is.3) (reading-id t.kind seat.at (take 512 (drop (seat.at).ib t.file)) (is.1).body ((is.1).stands).framed.1, tt)
tree-ids t (suc n) seat found is =
    subst (λ (f : Found). Each (HasId t.file) f.pages) (sym is.5)
    (reading-id t.kind seat.at (take 512 (drop (seat.at).ib t.file)) (is.2).body ((is.2).stands).framed.1, children-ids (IsTree t n) (HasId t.file) (tree-ids t n) t.rule n seat.high is.0.entries is.1 is.4)

-- a page that shows something has its id
shown-id : {E : Type 0} (entry_of : List ℕ → E) (t : FileTree) (at : Bref) (s : Shape E) → shapes_in entry_of t at ≡ Some s → HasId t.file at
shown-id {E} entry_of t at s is = by_body (body_at t at) refl is
  where
    none-some : ◌≡◌ {A = Option (Shape E)} None (Some s) → ⊥
    none-some h = cc

    no-body : (body : List ℕ) → ◌≡◌ {A = Option (List ℕ)} None (Some body) → ⊥
    no-body body h = cc

    by_read : (r : Result (List ℕ) PageFault) (body : List ℕ) → reading t.kind at (take 512 (drop at.ib t.file)) ≡ r → ok_of r ≡ Some body → HasId t.file at
    by_read (Ok b) body e h = reading-id t.kind at (take 512 (drop at.ib t.file)) b e
    by_read (Err fault) body e h = absurd (no-body body h)

    by_place : (p : Bool) (body : List ℕ) → (if p then ok_of (reading t.kind at (take 512 (drop at.ib t.file))) else None) ≡ Some body → HasId t.file at
    by_place true body h = by_read (reading t.kind at (take 512 (drop at.ib t.file))) body refl h
    by_place false body h = absurd (no-body body h)

    by_body : (b : Option (List ℕ)) → body_at t at ≡ b → shown t.rule t.leaf entry_of b ≡ Some s → HasId t.file at
    by_body None e h = absurd (none-some h)
    by_body (Some body) e h = by_place (is_placed t.eof at.ib) body e

-- pages whose bytes stay keep their ids
ids-stay : (file new : List ℕ) (ps : List Bref) → Each (HasId file) ps → EachPlace (SameAt file new) (map page_place ps) → Each (HasId new) ps
ids-stay file new [] ids same = tt
ids-stay file new (p ∷ ps) ids same = (ap (number_at 8 504) same.0 ∙ ids.0, ids-stay file new ps ids.1 same.1)

-- and each page of a plan has the id of its name
names-ids : {E : Type 0} (entry_of : List ℕ → E) (t : FileTree) (name : ℕ → Bref) (from : ℕ) (pages : List (PlanPage E)) → AreShown (shapes_in entry_of t) name from pages → Each (HasId t.file) (names name from pages)
names-ids entry_of t name from [] shown = tt
names-ids entry_of t name from (p ∷ pages) shown = (shown-id entry_of t (name from) (shape_in name p) shown.0, names-ids entry_of t name (from + 1) pages shown.1)

-- of a tree after edits: the pages that were there and those that are new, and all that are there now
pub changed-ids : {E : Type 0} {entry_of : List ℕ → E} {key : E → ℕ} {t : FileTree} {new : List ℕ} {more : ℕ} {old : Found} {pages : List (PlanPage E)} {freed : List Bref} {top : Child} {name : ℕ → Bref} {ds : List (ℕ × Option E)}
    → (is : IsChangedTree entry_of key t new more old pages freed top name ds) → (root : Bref) → IsFileWhole t root old → EachPlace (SameAt t.file new) (page_places old)
    → AreShown (shapes_in entry_of (moved t new more)) name 0 pages → Each (HasId new) (old.pages ++ names name 0 pages) × Each (HasId new) (is.found).pages
changed-ids {E} {entry_of} {key} {t} {new} {more} {old} {pages} {freed} {top} {name} {ds} is root whole same shown = (
  each-append (HasId new) old.pages (names name 0 pages) (ids-stay t.file new old.pages (tree-ids t whole.level (root_seat root) old whole.tree) same) (names-ids entry_of (moved t new more) name 0 pages shown),
  tree-ids (moved t new more) (is.tree).level (root_seat (resolve name top)) is.found (is.tree).tree,
)

-- ---- ids below a number

-- the id stored at a place is below a number
abbrev pub IdBelow : List ℕ → ℕ → Place → Type 0
IdBelow file limit p = id_at file p < limit

-- the page's id is
abbrev pub RefBelow : ℕ → Bref → Type 0
RefBelow limit at = (at.bid).bits < limit

places-below : (file new : List ℕ) (limit more : ℕ) (ps : List Bref) → limit ≤ more → Each (HasId file) ps → Each (RefBelow limit) ps → EachPlace (SameAt file new) (map page_place ps) → EachPlace (IdBelow new more) (map page_place ps)
places-below file new limit more [] le ids below same = tt
places-below file new limit more (p ∷ ps) le ids below same =
    let e : id_at new (page_place p) ≡ id_at file (page_place p) = ap (number_at 8 504) same.0 in
    let is = ids.0 in let lt = below.0 in
    (omega (arith, e, is, lt, le), places-below file new limit more ps le ids.1 below.1 same.1)

-- the pages of a plan, of which each has the next id
names-below : {E : Type 0} (entry_of : List ℕ → E) (t : FileTree) (name : ℕ → Bref) (first from count limit : ℕ) (pages : List (PlanPage E)) → ((i : ℕ) → i < count → ((name i).bid).bits ≡ first + i) → from + length pages ≤ count → first + count ≤ limit
    → AreShown (shapes_in entry_of t) name from pages → EachPlace (IdBelow t.file limit) (map page_place (names name from pages))
names-below entry_of t name first from count limit [] are few most shown = tt
names-below entry_of t name first from count limit (p ∷ pages) are few most shown =
    let id = shown-id entry_of t (name from) (shape_in name p) shown.0 in
    let is = are from (omega (arith, few)) in
    (omega (arith, id, is, few, most), names-below entry_of t name first (from + 1) count limit pages are (omega (arith, few)) most shown.1)

-- what is known of each place of some pages is known of each page at one of these places
of-tally : (P : Place → Type 0) (ps : List Bref) (ib : ℕ) → EachPlace P (map page_place ps) → 1 ≤ tally ib ps → P (record { ib = ib; len = 512 })
of-tally P [] ib all some = absurd (omega (arith, some))
of-tally P (p ∷ ps) ib all some = elim (cases_eq p.ib ib) [
  | inl same ↦ subst (λ (k : ℕ). P (record { ib = k; len = 512 })) same all.0
  | inr other ↦ let none : ◌≡◌ {A = ℕ} (if eqb p.ib ib then 1 else 0) 0 = rw (ne_eqb p.ib ib other) refl in of-tally P ps ib all.1 (omega (arith, some, none))
]

here : (y : Bref) (ys : List Bref) → 1 ≤ tally y.ib (y ∷ ys)
here y ys = let e : ◌≡◌ {A = ℕ} (if eqb y.ib y.ib then 1 else 0) 1 = rw (eq-eqb y.ib y.ib refl) refl in omega (arith, e)

-- pages at places of others
refs-below : (file : List ℕ) (limit : ℕ) (done ps all : List Bref) → ((ib : ℕ) → tally ib done + tally ib ps ≤ tally ib all) → Each (HasId file) ps → EachPlace (IdBelow file limit) (map page_place all) → Each (RefBelow limit) ps
refs-below file limit done [] all few ids below = tt
refs-below file limit done (p ∷ ps) all few ids below =
    let some : 1 ≤ tally p.ib all = let a = few p.ib in let b = here p ps in omega (arith, a, b) in
    let lt = of-tally (IdBelow file limit) all p.ib below some in
    let is = ids.0 in
    (omega (arith, lt, is), refs-below file limit (p ∷ done) ps all (λ ib. let c = few ib in omega (arith, c)) ids.1 below)

place-append : (P : Place → Type 0) (xs ys : List Bref) → EachPlace P (map page_place xs) → EachPlace P (map page_place ys) → EachPlace P (map page_place (xs ++ ys))
place-append P [] ys a b = b
place-append P (x ∷ xs) ys a b = (a.0, place-append P xs ys a.1 b)

-- of a tree after edits: where the ids of the old pages are below a number, and the new ones go on from another
pub changed-below : {E : Type 0} {entry_of : List ℕ → E} {key : E → ℕ} {t : FileTree} {new : List ℕ} {more : ℕ} {old : Found} {pages : List (PlanPage E)} {freed : List Bref} {top : Child} {name : ℕ → Bref} {ds : List (ℕ × Option E)}
    → (is : IsChangedTree entry_of key t new more old pages freed top name ds) → (root : Bref) → IsFileWhole t root old → EachPlace (SameAt t.file new) (page_places old)
    → AreShown (shapes_in entry_of (moved t new more)) name 0 pages → (limit first end : ℕ) → limit ≤ end → first + length pages ≤ end → ((i : ℕ) → i < length pages → ((name i).bid).bits ≡ first + i) → Each (RefBelow limit) old.pages
    → Each (RefBelow end) (is.found).pages
changed-below {E} {entry_of} {key} {t} {new} {more} {old} {pages} {freed} {top} {name} {ds} is root whole same shown limit first end le most are below =
    let ids : Each (HasId t.file) old.pages = tree-ids t whole.level (root_seat root) old whole.tree in
    let now : Each (HasId new) (is.found).pages = tree-ids (moved t new more) (is.tree).level (root_seat (resolve name top)) is.found (is.tree).tree in
    refs-below new end freed (is.found).pages (old.pages ++ names name 0 pages)
    (λ ib. let a = is.named ib in let b = tally-join ib old.pages (names name 0 pages) in omega (arith, a, b)) now
    (place-append (IdBelow new end) old.pages (names name 0 pages) (places-below t.file new limit end old.pages le ids below same)
    (names-below entry_of (moved t new more) name first 0 (length pages) end pages are (omega arith) most shown))

-- ---- the number of the next page

past-first : (n : ℕ) (ps : List Bref) → n ≤ past_pages n ps
past-first n [] = omega arith
past-first n (p ∷ ps) = let h = past-first n ps in omega (arith, h)

past-each : (n m : ℕ) (ps : List Bref) → past_pages n ps ≤ m → Each (RefBelow m) ps
past-each n m [] most = tt
past-each n m (p ∷ ps) most = (omega (arith, most), past-each n m ps (omega (arith, most)))

past-most : (n m : ℕ) (ps : List Bref) → n ≤ m → Each (RefBelow m) ps → past_pages n ps ≤ m
past-most n m [] le all = le
past-most n m (p ∷ ps) le all = let a = all.0 in let h = past-most n m ps le all.1 in omega (arith, a, h)

-- what is known of a next number that isn't used up
pub page-known : (header : Header) (ps : List Bref) (next : ℕ) → next ≡ next_page header ps → next < 2 ^ 61 → Each (RefBelow next) ps
page-known header ps next is low = past-each header.next_page next ps (omega (arith, is, low))

pub page-is : (header : Header) (ps : List Bref) (next : ℕ) → header.next_page ≡ next → next < 2 ^ 64 → Each (RefBelow next) ps → next ≡ next_page header ps
page-is header ps next is low all =
    let first : next ≤ past_pages header.next_page ps = let a = past-first header.next_page ps in omega (arith, a, is) in
    let most : past_pages header.next_page ps ≤ next = past-most header.next_page next ps (omega (arith, is)) all in
    omega (arith, first, most, low)
