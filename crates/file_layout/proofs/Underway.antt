-- A reading underway: some of a page's children were read.
use Rattle.std.proofs.Common.{◌≡◌, ℕ, zero, suc, ◌+◌, ◌-◌, ◌<◌, ◌≤◌, List, [], ◌∷◌, ◌++◌, length, drop, map, get_or, Option, Some, None, Result, Ok, Err, refl, sym, ap, subst, ◌∙◌, arith, append_assoc, append-nil, inl, inr, ⊎_elim}
use Rattle.std.proofs.lemmas.List.{drop_all, map-append}
use Rattle.std.proofs.Math.Seq.{drop-cons}
use Rattle.pst_base.specs.declared.ids.Bref.{Bref}
use Rattle.pst_base.specs.declared.stops.PageFault.{PageFault}
use Rattle.pst_outside.specs.World.{World}
use Rattle.pst_outside.specs.Calls.{Untouched}
use Rattle.alloc_map.specs.page_frame.Page.{reading}
use Rattle.btree_pages.specs.Pages.{Page}
use Rattle.file_layout.specs.declared.stops.PageRefusal.{PageRefusal}
use Rattle.file_layout.specs.declared.stops.PageRefusal.TheVariants.{Outside}
use Rattle.file_layout.specs.declared.stops.OpenRefusal.TheVariants as refusals
use Rattle.file_layout.specs.declared.stops.OpenStop.{OpenStop}
use Rattle.file_layout.specs.declared.stops.OpenStop.TheVariants.{Refused, Fault, Changed, Memory}
use Rattle.file_layout.specs.declared.tree_pages.Seat.{Seat}
use Rattle.file_layout.specs.Trees.{framed, faulty, within_frame, FileTree, page_at, Found, nothing, both, page_alone, leaf_of, child_of}
use Rattle.file_layout.specs.Walk.{BadPage, after, and_after, through, children, below, walk, Adds, Stands, StopsOutside, StopsWalk}
use Rattle.file_layout.proofs.SeatLaws.{page_in-level, page_in-low}
use Rattle.file_layout.proofs.WalkLaws.{reading_of, page_at-level}

-- ---- the depth

-- how deep a seat may lead: a root to eight pages, and a child to as many as its level
abbrev pub depth_of : Option ℕ → ℕ
depth_of None = 8
depth_of (Some level) = level

not_zero : (l n : ℕ) → l ≡ n → (l ≡ 0 → ⊥) → l - 1 < n
not_zero zero n same inner = absurd (inner refl)
not_zero (suc l) n same inner = omega (arith, same)

pub deeper : (kind : ℕ) (rule : ℕ → ℕ) (leaf : ℕ) (seat : Seat) (b : List ℕ) (page : Page) → framed kind rule leaf seat b ≡ Ok page → (page.level ≡ 0 → ⊥)
    → page.level - 1 < depth_of seat.level
unfolding framed
deeper kind rule leaf seat b page e inner = by_frame (reading kind seat.at b) e
  where
    by_level : (level : Option ℕ) → seat.level ≡ level → (body : List ℕ) → within_frame rule leaf seat (Ok body) ≡ Ok page → page.level - 1 < depth_of level
    by_level None is body h = let low : page.level ≤ 7 = page_in-low rule leaf seat body page h in omega (arith, low)
    by_level (Some n) is body h =
        let same : page.level ≡ n = page_in-level rule leaf seat body page n is h in
        not_zero page.level n same inner

    by_frame : (r : Result (List ℕ) PageFault) → within_frame rule leaf seat r ≡ Ok page → page.level - 1 < depth_of seat.level
    by_frame (Ok body) h = by_level seat.level refl body h
    by_frame (Err fault) h = absurd (cc)

-- ---- joining what was found

both-nothing : (f : Found) → both f nothing ≡ f
both-nothing f = λ i. record { entries = append-nil f.entries i; pages = append-nil f.pages i }

both-both : (f g h : Found) → both (both f g) h ≡ both f (both g h)
both-both f g h = λ i. record { entries = append_assoc f.entries g.entries h.entries i; pages = append_assoc f.pages g.pages h.pages i }

after-after : (f g : Found) (r : Result Found BadPage) → after f (after g r) ≡ after (both f g) r
after-after f g (Ok h) = ap Ok (sym (both-both f g h))
after-after f g (Err bad) = refl

-- what a child leads to, whose level is known
pub walk-level : (t : FileTree) (seat : Seat) (n : ℕ) → seat.level ≡ Some n → walk t seat ≡ reading_of t n seat
unfolding walk
walk-level t seat n wants = by_page (page_at t seat) refl
  where
    by_page : (r : Result Page PageRefusal) → page_at t seat ≡ r → through seat r (λ page. below t page.level seat.high page.entries) ≡ through seat r (λ page. below t n seat.high page.entries)
    by_page (Err fault) is = refl
    by_page (Ok page) is = ap (λ (l : ℕ). after (page_alone seat) (below t l seat.high page.entries)) (page_at-level t seat page n wants is)

-- ---- where a reading stops

-- a page whose bytes were read
pub page_framed : (t : FileTree) (seat : Seat) (b : List ℕ) → Stands t.eof seat t.file b → page_at t seat ≡ faulty (framed t.kind t.rule t.leaf seat b)
unfolding page_at
page_framed t seat b here = rw here.placed (ap (λ (l : List ℕ). faulty (framed t.kind t.rule t.leaf seat l)) (sym here.bytes))

-- a page that is at fault
pub faulty_stops : (t : FileTree) (seat : Seat) (fault : PageRefusal) (stop : OpenStop) → stop ≡ Refused (refusals.Page seat.at.ib fault) → page_at t seat ≡ Err fault
    → StopsWalk stop (walk t seat)
unfolding walk
faulty_stops t seat fault stop is e =
    let P : OpenStop → Type 0 = λ s. StopsWalk s (walk t seat) in
    subst P (sym is) (ap (λ (r : Result Page PageRefusal). through seat r (λ page. below t page.level seat.high page.entries)) e)

-- a page that can't stand there
pub outside_stops : (t : FileTree) (seat : Seat) (stop : OpenStop) → StopsOutside stop t.eof seat → StopsWalk stop (walk t seat)
unfolding page_at
outside_stops t seat Fault out = tt
outside_stops t seat (Changed ib stored computed) out = absurd out
outside_stops t seat Memory out = tt
outside_stops t seat (Refused refusal) out = faulty_stops t seat Outside (Refused refusal) (ap Refused out.0) (rw out.1 refl)

-- ---- a page's children, of which i were read

pub record Underway {E : Type 0} (entry_of : List ℕ → E) (t : FileTree) (seat : Seat) (page : Page) (i : ℕ) (old_entries entries : List E) (old_pages pages : List Bref) : Type 0 where
  pub front : Found
  pub rest : walk t seat ≡ after front (children (reading_of t (page.level - 1)) t.rule (page.level - 1) seat.high (drop i page.entries))
  pub adds : Adds entry_of front old_entries entries old_pages pages

-- a page was read, and its place was put down
pub underway-start : {E : Type 0} (entry_of : List ℕ → E) (t : FileTree) (seat : Seat) (page : Page) (entries : List E) (old_pages pages : List Bref)
    → page_at t seat ≡ Ok page → (page.level ≡ 0 → ⊥) → pages ≡ old_pages ++ seat.at ∷ []
    → Underway entry_of t seat page 0 entries entries old_pages pages
unfolding walk below
underway-start {E} entry_of t seat page entries old_pages pages is inner put = record {
  front = page_alone seat;
  rest = ap (λ (r : Result Page PageRefusal). through seat r (λ q. below t q.level seat.high q.entries)) is ∙ ap (λ (r : Result Found BadPage). after (page_alone seat) r) (by_level page.level refl inner);
  adds = record { entries = sym (append-nil entries); pages = put };
}
  where
    by_level : (l : ℕ) → page.level ≡ l → (l ≡ 0 → ⊥) → below t l seat.high page.entries ≡ children (reading_of t (l - 1)) t.rule (l - 1) seat.high page.entries
    by_level zero e h = absurd (h refl)
    by_level (suc n) e h = let one : suc n - 1 ≡ n = omega arith in rw one refl

-- a leaf was read
pub leaf-end : {E : Type 0} (entry_of : List ℕ → E) (t : FileTree) (seat : Seat) (page : Page) (old_entries entries : List E) (old_pages pages : List Bref)
    → page_at t seat ≡ Ok page → page.level ≡ 0 → pages ≡ old_pages ++ seat.at ∷ [] → entries ≡ old_entries ++ map entry_of page.entries
    → (found : Found) × (walk t seat ≡ Ok found) × Adds entry_of found old_entries entries old_pages pages
unfolding walk below
leaf-end {E} entry_of t seat page old_entries entries old_pages pages is leaf put more =
    (both (page_alone seat) (leaf_of page.entries), rw (is, leaf) refl, record { entries = more; pages = put })

-- the entries from a place on
from_here : (entries : List (List ℕ)) (i : ℕ) → i < length entries → drop i entries ≡ get_or entries i [] ∷ drop (i + 1) entries
from_here entries i h = let e : suc i ≡ i + 1 = omega arith in drop-cons entries i [] h ∙ ap (λ (k : ℕ). get_or entries i [] ∷ drop k entries) e

-- one child more
pub underway-next : {E : Type 0} (entry_of : List ℕ → E) (t : FileTree) (seat : Seat) (page : Page) (i : ℕ) (old_entries entries new_entries : List E) (old_pages pages new_pages : List Bref) (first : Found) (child : Seat)
    → Underway entry_of t seat page i old_entries entries old_pages pages → i < length page.entries
    → child ≡ child_of t.rule (page.level - 1) seat.high (get_or page.entries i []) (drop (i + 1) page.entries)
    → walk t child ≡ Ok first → Adds entry_of first entries new_entries pages new_pages
    → Underway entry_of t seat page (i + 1) old_entries new_entries old_pages new_pages
unfolding children
underway-next {E} entry_of t seat page i old_entries entries new_entries old_pages pages new_pages first child under within is read adds =
    let n : ℕ = page.level - 1 in
    let later : Result Found BadPage = children (reading_of t n) t.rule n seat.high (drop (i + 1) page.entries) in
    let wants : child.level ≡ Some n = ap (λ (s : Seat). s.level) is in
    let one : reading_of t n (child_of t.rule n seat.high (get_or page.entries i []) (drop (i + 1) page.entries)) ≡ Ok first =
    ap (reading_of t n) (sym is) ∙ sym (walk-level t child n wants) ∙ read in
    let here : children (reading_of t n) t.rule n seat.high (drop i page.entries) ≡ after first later =
    ap (children (reading_of t n) t.rule n seat.high) (from_here page.entries i within) ∙ ap (λ (r : Result Found BadPage). and_after r later) one in
    record {
      front = both under.front first;
      rest = under.rest ∙ ap (after under.front) here ∙ after-after under.front first later;
      adds = record {
        entries = adds.entries ∙ ap (λ (l : List E). l ++ map entry_of first.entries) under.adds.entries ∙ append_assoc old_entries (map entry_of under.front.entries) (map entry_of first.entries)
            ∙ ap (λ (l : List E). old_entries ++ l) (sym (map-append entry_of under.front.entries first.entries));
        pages = adds.pages ∙ ap (λ (l : List Bref). l ++ first.pages) under.adds.pages ∙ append_assoc old_pages under.front.pages first.pages;
      };
    }

-- a child where the reading stops
pub underway-stop : {E : Type 0} (entry_of : List ℕ → E) (t : FileTree) (seat : Seat) (page : Page) (i : ℕ) (old_entries entries : List E) (old_pages pages : List Bref) (bad : BadPage) (child : Seat)
    → Underway entry_of t seat page i old_entries entries old_pages pages → i < length page.entries
    → child ≡ child_of t.rule (page.level - 1) seat.high (get_or page.entries i []) (drop (i + 1) page.entries)
    → walk t child ≡ Err bad → walk t seat ≡ Err bad
unfolding children
underway-stop {E} entry_of t seat page i old_entries entries old_pages pages bad child under within is read =
    let n : ℕ = page.level - 1 in
    let later : Result Found BadPage = children (reading_of t n) t.rule n seat.high (drop (i + 1) page.entries) in
    let wants : child.level ≡ Some n = ap (λ (s : Seat). s.level) is in
    let one : reading_of t n (child_of t.rule n seat.high (get_or page.entries i []) (drop (i + 1) page.entries)) ≡ Err bad =
    ap (reading_of t n) (sym is) ∙ sym (walk-level t child n wants) ∙ read in
    let here : children (reading_of t n) t.rule n seat.high (drop i page.entries) ≡ Err bad =
    ap (children (reading_of t n) t.rule n seat.high) (from_here page.entries i within) ∙ ap (λ (r : Result Found BadPage). and_after r later) one in
    under.rest ∙ ap (after under.front) here

-- the same, as an answer says it
pub child_stops : {E : Type 0} (entry_of : List ℕ → E) (t : FileTree) (seat : Seat) (page : Page) (i : ℕ) (old_entries entries : List E) (old_pages pages : List Bref) (child : Seat)
    → Underway entry_of t seat page i old_entries entries old_pages pages → i < length page.entries
    → child ≡ child_of t.rule (page.level - 1) seat.high (get_or page.entries i []) (drop (i + 1) page.entries)
    → (stop : OpenStop) → StopsWalk stop (walk t child) → StopsWalk stop (walk t seat)
child_stops {E} entry_of t seat page i old_entries entries old_pages pages child under within is Memory stops = tt
child_stops {E} entry_of t seat page i old_entries entries old_pages pages child under within is Fault stops = tt
child_stops {E} entry_of t seat page i old_entries entries old_pages pages child under within is (Changed ib stored computed) stops = stops
child_stops {E} entry_of t seat page i old_entries entries old_pages pages child under within is (Refused (refusals.Page ib fault)) stops =
    underway-stop entry_of t seat page i old_entries entries old_pages pages (record { ib = ib; fault = fault }) child under within is stops
child_stops {E} entry_of t seat page i old_entries entries old_pages pages child under within is (Refused other) stops = stops

-- all children were read
pub underway-end : {E : Type 0} (entry_of : List ℕ → E) (t : FileTree) (seat : Seat) (page : Page) (i : ℕ) (old_entries entries : List E) (old_pages pages : List Bref)
    → Underway entry_of t seat page i old_entries entries old_pages pages → length page.entries ≤ i
    → (found : Found) × (walk t seat ≡ Ok found) × Adds entry_of found old_entries entries old_pages pages
unfolding children
underway-end {E} entry_of t seat page i old_entries entries old_pages pages under all =
    let n : ℕ = page.level - 1 in
    let here : children (reading_of t n) t.rule n seat.high (drop i page.entries) ≡ Ok nothing =
    ap (children (reading_of t n) t.rule n seat.high) (drop_all i page.entries all) in
    (under.front, under.rest ∙ ap (after under.front) here ∙ ap Ok (both-nothing under.front), under.adds)

-- ---- the world

-- two calls that change nothing
pub untouched_then : {a b c : World} → Untouched a b → Untouched b c → Untouched a c
untouched_then {a} {b} {c} first then = record {
  counts = record {
    in_faults = omega (arith, first.counts.in_faults, then.counts.in_faults);
    out_faults = omega (arith, first.counts.out_faults, then.counts.out_faults);
    disk_faults = omega (arith, first.counts.disk_faults, then.counts.disk_faults);
  };
  stays = record {
    written = then.stays.written ∙ first.stays.written;
    told = λ told. first.stays.told (then.stays.told told);
    here = λ told. then.stays.here told ∙ first.stays.here (then.stays.told told);
    input = λ told. then.stays.input told ∙ first.stays.input (then.stays.told told);
  };
  keeps_told = λ told. then.keeps_told (first.keeps_told told);
  crash = λ i left. first.crash i (then.crash i left);
  time = record {
    later = omega (arith, first.time.later, then.time.later);
    nothing_else = λ t i le left.
        ⊎_elim
        (λ before. ⊎_elim inl (λ now. inl (a.counts_now t i le (first.crash i now))) (first.time.nothing_else t i le before))
        inr
        (then.time.nothing_else t i (omega (arith, le, first.time.later)) left);
    keeps = λ t i le left. then.time.keeps t i (omega (arith, le, first.time.later)) (first.time.keeps t i le left);
  };
}
