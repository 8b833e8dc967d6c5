-- New blocks and pages of a file after a commit.
use Rattle.std.proofs.Common.{Bool, true, false, ◌≡◌, ◌∙◌, ◌⊎◌, inl, inr, ℕ, zero, suc, ◌+◌, ◌<◌, ◌≤◌, eqb, List, [], ◌∷◌, ◌++◌, length, map, get_or, Option, Some, None, refl, sym, ap, subst, arith, if◌then◌else◌}
use Rattle.std.specs.List.{Contains}
use Rattle.std.proofs.lemmas.Bool.{cases_eq, cases_lt, eq-eqb, lt-ltb, le-ltb, ne_eqb}
use Rattle.std.proofs.lemmas.List.Elements.{Contains-append_cases, Contains-append_left, Contains-append_right}
use Rattle.pst_base.specs.declared.ids.Bid.{Bid}
use Rattle.pst_base.specs.declared.ids.Bref.{Bref}
use Rattle.pst_base.specs.declared.places.Place.{Place}
use Rattle.btree_pages.specs.declared.entry.BlockEntry.{BlockEntry}
use Rattle.data_tree.specs.Plan.{Rise}
use Rattle.file_blocks.specs.Blocks.{entry_key}
use Rattle.file_layout.specs.Nodes.{place_of}
use Rattle.file_layout.specs.Trees.{FileTree, Found, IsWhole as IsFileWhole, page_places}
use Rattle.lays_kept.specs.declared.Piece.{Piece}
use Rattle.lays_kept.specs.Kept.{Each as EachPlace, SameAt}
use Rattle.lays_kept.specs.Moved.{moved}
use Rattle.node_layout.specs.Changed.{IsChangedTree}
use Rattle.node_layout.specs.Lookups.{Each}
use Rattle.node_layout.specs.Sealed.{AreSealed}
use Rattle.tree_edit.specs.declared.plan.Child.{Child}
use Rattle.tree_edit.specs.declared.plan.PlanPage.{PlanPage}
use Rattle.tree_edit.specs.Edits.{AreEdits, Keyed, edited, given, over, under}
use Rattle.tree_edit.specs.Plans.{AreShown, names, tally}
use Rattle.tree_edit.proofs.PlanLaws.{tally-join}
use Rattle.file_pages.specs.InFile.{shapes_in}
use Rattle.plan_pieces.specs.Names.{named}
use Rattle.plan_pieces.proofs.PageLaws.{named-within}
use Rattle.plan_drawing.specs.Recounts.{puts_of}
use Rattle.file_planner.specs.New.{AreNewBlocks, AreRenewed, IsNewBlock, entries_from, new_pages}
use Rattle.file_planner.proofs.PageLaws.{changed-ids, id_at}

-- ---- entries from a limit on

from-append : (limit : ℕ) (xs ys : List BlockEntry) → entries_from limit (xs ++ ys) ≡ entries_from limit xs ++ entries_from limit ys
from-append limit [] ys = refl
from-append limit (x ∷ xs) ys = elim (cases_lt (entry_key x) limit) [
  | inl lt ↦ rw (lt-ltb (entry_key x) limit lt) (from-append limit xs ys)
  | inr le ↦ rw (le-ltb (entry_key x) limit le) (ap (λ (l : List BlockEntry). x ∷ l) (from-append limit xs ys))
]

-- the key is below a limit
abbrev pub KeyBelow : ℕ → BlockEntry → Type 0
KeyBelow limit e = entry_key e < limit

pub keys-below : (limit : ℕ) (es : List BlockEntry) → Each (λ (x : BlockEntry). ((x.at).bid).bits + 4 ≤ limit + 3) es → Each (KeyBelow limit) es
keys-below limit [] all = tt
keys-below limit (e ∷ es) all = (let a = all.0 in omega (arith, a), keys-below limit es all.1)

from-none : (limit : ℕ) (es : List BlockEntry) → Each (KeyBelow limit) es → entries_from limit es ≡ []
from-none limit [] all = refl
from-none limit (e ∷ es) all = rw (lt-ltb (entry_key e) limit all.0) (from-none limit es all.1)

under-below : (limit k : ℕ) (es : List BlockEntry) → Each (KeyBelow limit) es → Each (KeyBelow limit) (under entry_key k es)
under-below limit k [] all = tt
under-below limit k (e ∷ es) all = elim (cases_lt (entry_key e) k) [
  | inl lt ↦ rw (lt-ltb (entry_key e) k lt) (all.0, under-below limit k es all.1)
  | inr le ↦ rw (le-ltb (entry_key e) k le) (under-below limit k es all.1)
]

over-below : (limit k : ℕ) (es : List BlockEntry) → Each (KeyBelow limit) es → Each (KeyBelow limit) (over entry_key k es)
over-below limit k [] all = tt
over-below limit k (e ∷ es) all = elim (cases_lt k (entry_key e)) [
  | inl lt ↦ rw (lt-ltb k (entry_key e) lt) (all.0, over-below limit k es all.1)
  | inr le ↦ rw (le-ltb k (entry_key e) le) (over-below limit k es all.1)
]

given-none : (limit k : ℕ) (o : Option BlockEntry) → Keyed entry_key k o → k < limit → entries_from limit (given o) ≡ []
given-none limit k None keyed lt = refl
given-none limit k (Some e) keyed lt = rw (lt-ltb (entry_key e) limit (omega (arith, keyed, lt))) refl

given-one : (limit k : ℕ) (e : BlockEntry) → entry_key e ≡ k → limit ≤ k → entries_from limit (e ∷ []) ≡ e ∷ []
given-one limit k e keyed le = rw (le-ltb (entry_key e) limit (omega (arith, keyed, le))) refl

-- of entries below a limit, edits of new entries leave just these from it on
puts-from : (limit low high : ℕ) (old news : List BlockEntry) → limit ≤ low → Each (KeyBelow limit) old → AreEdits entry_key low high (puts_of news) → entries_from limit (edited entry_key old (puts_of news)) ≡ news
puts-from limit low high old [] le below are = from-none limit old below
puts-from limit low high old (e ∷ news) le below are =
    let k : ℕ = entry_key e in
    let first = are.0 in
    let rest : List BlockEntry = edited entry_key (over entry_key k old) (puts_of news) in
    let a = from-append limit (under entry_key k old) (e ∷ rest) in
    let b = from-none limit (under entry_key k old) (under-below limit k old below) in
    let c = from-append limit (e ∷ []) rest in
    let d = given-one limit k e refl (omega (arith, first, le)) in
    let f = puts-from limit (k + 1) high (over entry_key k old) news (omega (arith, first, le)) (over-below limit k old below) are.3 in
    a ∙ ap (λ (l : List BlockEntry). l ++ entries_from limit (e ∷ rest)) b ∙ c ∙ ap (λ (l : List BlockEntry). l ++ entries_from limit rest) d ∙ ap (λ (l : List BlockEntry). e ∷ l) f

pub edited-from : (limit low high : ℕ) (old news : List BlockEntry) (ds : List (ℕ × Option BlockEntry)) → Each (KeyBelow limit) old → AreEdits entry_key low limit ds → AreEdits entry_key limit high (puts_of news)
    → entries_from limit (edited entry_key old (ds ++ puts_of news)) ≡ news
edited-from limit low high old news [] below are new = puts-from limit limit high old news (omega arith) below new
edited-from limit low high old news (d ∷ ds) below are new =
    let rest : List BlockEntry = edited entry_key (over entry_key d.0 old) (ds ++ puts_of news) in
    let a = from-append limit (under entry_key d.0 old) (given d.1 ++ rest) in
    let b = from-none limit (under entry_key d.0 old) (under-below limit d.0 old below) in
    let c = from-append limit (given d.1) rest in
    let g = given-none limit d.0 d.1 are.2 are.1 in
    let f = edited-from limit (d.0 + 1) high (over entry_key d.0 old) news ds (over-below limit d.0 old below) are.3 new in
    a ∙ ap (λ (l : List BlockEntry). l ++ entries_from limit (given d.1 ++ rest)) b ∙ c ∙ ap (λ (l : List BlockEntry). l ++ entries_from limit rest) g ∙ f

-- ---- sealed blocks

pub sealed-new : (next : ℕ) (blocks : List (Bid × List ℕ)) (entries : List BlockEntry) (pieces : List Piece) → Rise next blocks → AreSealed blocks entries pieces → AreNewBlocks next (map place_of entries) entries
sealed-new next [] entries pieces rise are = subst (λ (es : List BlockEntry). AreNewBlocks next (map place_of es) es) (sym are.0) refl
sealed-new next (b ∷ bs) [] pieces rise are = absurd are
sealed-new next (b ∷ bs) (e ∷ es) [] rise are = absurd are
sealed-new next (b ∷ bs) (e ∷ es) (p ∷ ps) rise are =
    let bits : ((e.at).bid).bits ≡ (b.0).bits = ap (λ (i : Bid). i.bits) (are.0).bid in
    (record { number_is = elim rise.0 [ inl a ↦ inl (bits ∙ a) | inr a ↦ inr (bits ∙ a) ]; stands = refl }, sealed-new (next + 4) bs es ps rise.1 are.1)

-- ---- pages

contains-none : (at : Bref) → Contains [] at → ⊥
contains-none at has = let lt = has.1 in omega (arith, lt)

contains-head : (x : Bref) (xs : List Bref) → Contains (x ∷ xs) x
contains-head x xs = (0, omega arith, refl)

contains-tail : (x at : Bref) (xs : List Bref) → Contains xs at → Contains (x ∷ xs) at
contains-tail x at xs has = (suc has.0, let lt = has.1 in omega (arith, lt), has.2)

contains-cases : (x at : Bref) (xs : List Bref) → Contains (x ∷ xs) at → (x ≡ at) ⊎ Contains xs at
contains-cases x at xs (zero, lt, is) = inl is
contains-cases x at xs (suc k, lt, is) = inr (k, omega (arith, lt), is)

-- a page is one of a list
tally-has : (at : Bref) (ps : List Bref) → Contains ps at → 1 ≤ tally at.ib ps
tally-has at [] has = absurd (contains-none at has)
tally-has at (p ∷ ps) has = elim (contains-cases p at ps has) [
  | inl same ↦ let e : ◌≡◌ {A = ℕ} (if eqb p.ib at.ib then 1 else 0) 1 = rw (eq-eqb p.ib at.ib (ap (λ (b : Bref). b.ib) same)) refl in omega (arith, e)
  | inr later ↦ let h = tally-has at ps later in omega (arith, h)
]

-- a page at a place of a list's
has-tally : (ib : ℕ) (ps : List Bref) → 1 ≤ tally ib ps → (q : Bref) × Contains ps q × (q.ib ≡ ib)
has-tally ib [] some = absurd (omega (arith, some))
has-tally ib (p ∷ ps) some = elim (cases_eq p.ib ib) [
  | inl same ↦ (p, contains-head p ps, same)
  | inr other ↦
      let none : ◌≡◌ {A = ℕ} (if eqb p.ib ib then 1 else 0) 0 = rw (ne_eqb p.ib ib other) refl in
      let rest = has-tally ib ps (omega (arith, some, none)) in
      (rest.0, contains-tail p rest.0 ps rest.1, rest.2)
]

each-has : (P : Bref → Type 0) (ps : List Bref) (at : Bref) → Each P ps → Contains ps at → P at
each-has P [] at all has = absurd (contains-none at has)
each-has P (p ∷ ps) at all has = elim (contains-cases p at ps has) [ inl same ↦ subst P same all.0 | inr later ↦ each-has P ps at all.1 later ]

-- pages of one place have one id, where each has that which is stored there
same-page : (id : ℕ → ℕ) (p q : Bref) → id p.ib ≡ (p.bid).bits → id q.ib ≡ (q.bid).bits → p.ib ≡ q.ib → p ≡ q
same-page id p q of_p of_q same =
    let bits : (p.bid).bits ≡ (q.bid).bits = sym of_p ∙ ap id same ∙ of_q in
    λ i. record { bid = record { bits = bits i }; ib = same i }

-- pages of a tree after edits, by how often each place is named
pub renewed : (id : ℕ → ℕ) (old new now freed : List Bref) → ((ib : ℕ) → tally ib now + tally ib freed ≡ tally ib (old ++ new)) → ((ib : ℕ) → tally ib freed ≤ tally ib old) → ((ib : ℕ) → tally ib (old ++ new) ≡ tally ib old + tally ib new)
    → Each (λ at. id at.ib ≡ (at.bid).bits) (old ++ new) → Each (λ at. id at.ib ≡ (at.bid).bits) now → AreRenewed old new now
renewed id old new now freed named few join ids own = record {
  all = λ at has.
      let some = tally-has at now has in
      let sum = named at.ib in
      let one = has-tally at.ib (old ++ new) (omega (arith, some, sum)) in
      let same = same-page id one.0 at (each-has (λ b. id b.ib ≡ (b.bid).bits) (old ++ new) one.0 ids one.1) (each-has (λ b. id b.ib ≡ (b.bid).bits) now at own has) one.2 in
      subst (Contains (old ++ new)) same one.1;
  each = λ at has.
      let some = tally-has at new has in
      let sum = named at.ib in
      let less = few at.ib in
      let both = join at.ib in
      let one = has-tally at.ib now (omega (arith, some, sum, less, both)) in
      let same = same-page id one.0 at (each-has (λ b. id b.ib ≡ (b.bid).bits) now one.0 own one.1) (each-has (λ b. id b.ib ≡ (b.bid).bits) (old ++ new) at ids (Contains-append_right old new at has)) one.2 in
      subst (Contains now) same one.1;
}

-- pages of a tree at whose places none but new ones stand
pub all-new : (id : ℕ → ℕ) (new now : List Bref) → ((ib : ℕ) → tally ib now ≤ tally ib new) → Each (λ at. id at.ib ≡ (at.bid).bits) new → Each (λ at. id at.ib ≡ (at.bid).bits) now → (at : Bref) → Contains now at → Contains new at
all-new id new now few ids own at has =
    let some = tally-has at now has in
    let less = few at.ib in
    let one = has-tally at.ib new (omega (arith, some, less)) in
    let same = same-page id one.0 at (each-has (λ b. id b.ib ≡ (b.bid).bits) new one.0 ids one.1) (each-has (λ b. id b.ib ≡ (b.bid).bits) now at own has) one.2 in
    subst (Contains new) same one.1

pub each-among : (P : Bref → Type 0) (now new : List Bref) → ((at : Bref) → Contains now at → Contains new at) → Each P new → Each P now
each-among P [] new among all = tt
each-among P (x ∷ xs) new among all = (each-has P new x all (among x (contains-head x xs)), each-among P xs new (λ at has. among at (contains-tail x at xs has)) all)

pub pages-high : (first next : ℕ) (places : List Place) → first ≤ next → Each (λ (at : Bref). first ≤ (at.bid).bits) (new_pages next places)
pages-high first next [] le = tt
pages-high first next (p ∷ ps) le = (le, pages-high first (next + 1) ps (omega (arith, le)))

each-later : (P : Bref → Type 0) (xs ys : List Bref) → Each P (xs ++ ys) → Each P ys
each-later P [] ys all = all
each-later P (x ∷ xs) ys all = each-later P xs ys all.1

-- of a tree after edits that free all of its pages
pub changed-anew : {E : Type 0} {entry_of : List ℕ → E} {key : E → ℕ} {t : FileTree} {new : List ℕ} {more : ℕ} {old : Found} {pages : List (PlanPage E)} {freed : List Bref} {top : Child} {name : ℕ → Bref} {ds : List (ℕ × Option E)}
    → (is : IsChangedTree entry_of key t new more old pages freed top name ds) → (root : Bref) → IsFileWhole t root old → EachPlace (SameAt t.file new) (page_places old)
    → AreShown (shapes_in entry_of (moved t new more)) name 0 pages → ((ib : ℕ) → tally ib freed ≡ tally ib old.pages) → (P : Bref → Type 0) → Each P (names name 0 pages) → Each P (is.found).pages
changed-anew {E} {entry_of} {key} {t} {new} {more} {old} {pages} {freed} {top} {name} {ds} is root whole same shown anew P all =
    let ids = changed-ids is root whole same shown in
    each-among P (is.found).pages (names name 0 pages)
    (all-new (λ (ib : ℕ). id_at new (record { ib = ib; len = 512 })) (names name 0 pages) (is.found).pages (λ ib. let a = is.named ib in let b = anew ib in omega (arith, a, b))
    (each-later (λ (at : Bref). id_at new (record { ib = at.ib; len = 512 }) ≡ (at.bid).bits) old.pages (names name 0 pages) ids.0) ids.1) all

-- of a tree after edits that free some of its pages
pub changed-renewed : {E : Type 0} {entry_of : List ℕ → E} {key : E → ℕ} {t : FileTree} {new : List ℕ} {more : ℕ} {old : Found} {pages : List (PlanPage E)} {freed : List Bref} {top : Child} {name : ℕ → Bref} {ds : List (ℕ × Option E)}
    → (is : IsChangedTree entry_of key t new more old pages freed top name ds) → (root : Bref) → IsFileWhole t root old → EachPlace (SameAt t.file new) (page_places old)
    → AreShown (shapes_in entry_of (moved t new more)) name 0 pages → ((ib : ℕ) → tally ib freed ≤ tally ib old.pages) → AreRenewed old.pages (names name 0 pages) (is.found).pages
changed-renewed {E} {entry_of} {key} {t} {new} {more} {old} {pages} {freed} {top} {name} {ds} is root whole same shown few =
    let ids = changed-ids is root whole same shown in
    renewed (λ (ib : ℕ). id_at new (record { ib = ib; len = 512 })) old.pages (names name 0 pages) (is.found).pages freed (λ ib. let a = is.named ib in let b = tally-join ib old.pages (names name 0 pages) in omega (arith, a, b)) few
    (λ ib. tally-join ib old.pages (names name 0 pages)) ids.0 ids.1

-- those of two trees
pub both-renewed : (a b old old' now now' : List Bref) → AreRenewed old a now → AreRenewed old' b now' → AreRenewed (old ++ old') (a ++ b) (now ++ now')
both-renewed a b old old' now now' one two = record {
  all = λ at has. elim (Contains-append_cases now now' at has) [
    | inl h ↦ elim (Contains-append_cases old a at (one.all at h)) [
      | inl x ↦ Contains-append_left (old ++ old') (a ++ b) at (Contains-append_left old old' at x)
      | inr x ↦ Contains-append_right (old ++ old') (a ++ b) at (Contains-append_left a b at x)
    ]
    | inr h ↦ elim (Contains-append_cases old' b at (two.all at h)) [
      | inl x ↦ Contains-append_left (old ++ old') (a ++ b) at (Contains-append_right old old' at x)
      | inr x ↦ Contains-append_right (old ++ old') (a ++ b) at (Contains-append_right a b at x)
    ]
  ];
  each = λ at has. elim (Contains-append_cases a b at has) [
    | inl h ↦ Contains-append_left now now' at (one.each at h)
    | inr h ↦ Contains-append_right now now' at (two.each at h)
  ];
}

pub pages-append : (next : ℕ) (ps qs : List Place) → new_pages next (ps ++ qs) ≡ new_pages next ps ++ new_pages (next + length ps) qs
pages-append next [] qs = let e : next ≡ next + 0 = omega arith in ap (λ (n : ℕ). new_pages n qs) e
pages-append next (p ∷ ps) qs =
    let e : next + 1 + length ps ≡ next + suc (length ps) = omega arith in
    ap (λ (l : List Bref). record { bid = record { bits = next }; ib = p.ib } ∷ l) (pages-append (next + 1) ps qs ∙ ap (λ (n : ℕ). new_pages (next + 1) ps ++ new_pages n qs) e)

-- the names of as many pages as there are places
pub names-new : {E : Type 0} (first : ℕ) (places : List Place) (pages : List (PlanPage E)) → length places ≡ length pages → names (named first places) 0 pages ≡ new_pages first places
names-new {E} first places pages count = go first places pages 0 (λ i lt. let z : 0 + i ≡ i = omega arith in ap (named first places) z ∙ named-within first places i lt) count
  where
    go : (next : ℕ) (ps : List Place) (qs : List (PlanPage E)) (from : ℕ) → ((i : ℕ) → i < length ps → named first places (from + i) ≡ record { bid = record { bits = next + i }; ib = (get_or ps i (record { ib = 0; len = 0 })).ib }) → length ps ≡ length qs
        → names (named first places) from qs ≡ new_pages next ps
    go next [] [] from at long = refl
    go next [] (q ∷ qs) from at long = absurd (omega (arith, long))
    go next (p ∷ ps) [] from at long = absurd (omega (arith, long))
    go next (p ∷ ps) (q ∷ qs) from at long =
        let z : from ≡ from + 0 = omega arith in
        let y : next + 0 ≡ next = omega arith in
        let one : named first places from ≡ record { bid = record { bits = next }; ib = p.ib } = ap (named first places) z ∙ at 0 (omega arith) ∙ ap (λ (n : ℕ). record { bid = record { bits = n }; ib = p.ib }) y in
        ap (λ (x : Bref). x ∷ names (named first places) (from + 1) qs) one
        ∙ ap (λ (l : List Bref). record { bid = record { bits = next }; ib = p.ib } ∷ l) (go (next + 1) ps qs (from + 1)
        (λ i lt.
        let e : from + 1 + i ≡ from + suc i = omega arith in
        let f : next + suc i ≡ next + 1 + i = omega arith in
        ap (named first places) e ∙ at (suc i) (omega (arith, lt)) ∙ ap (λ (n : ℕ). record { bid = record { bits = n }; ib = (get_or ps i (record { ib = 0; len = 0 })).ib }) f) (omega (arith, long)))
