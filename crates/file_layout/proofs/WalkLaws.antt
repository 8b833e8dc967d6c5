-- What a reading gives is what the tree gives, and a page where it stops is at fault.
use Rattle.std.proofs.Common.{Bool, true, false, ◌≡◌, ℕ, zero, suc, ◌+◌, ◌≤◌, ◌%◌, leb, eqb, ◌&&◌, List, [], ◌∷◌, length, take, drop, Some, Result, Ok, Err, refl, sym, ap, subst, ◌∙◌, arith, length-drop, if◌then◌else◌, inl, inr, ◌⊎◌, ⊎_elim}
use Rattle.std.proofs.lemmas.Bool.{and_parts, leb-true, le-leb, eqb-true, eq-eqb}
use Rattle.std.proofs.lemmas.List.{length-take-le}
use Rattle.pst_base.specs.declared.ids.Bref.{Bref}
use Rattle.pst_base.specs.declared.stops.PageFault.{PageFault}
use Rattle.alloc_map.specs.page_frame.Page.{reading}
use Rattle.btree_pages.specs.Pages.{Page}
use Rattle.file_layout.specs.declared.stops.PageRefusal.{PageRefusal}
use Rattle.file_layout.specs.declared.stops.PageRefusal.TheVariants.{Outside}
use Rattle.file_layout.specs.declared.stops.OpenRefusal.TheVariants as refusals
use Rattle.file_layout.specs.declared.stops.OpenStop.{OpenStop}
use Rattle.file_layout.specs.declared.stops.OpenStop.TheVariants.{Refused, Fault, Changed, Memory}
use Rattle.file_layout.specs.declared.tree_pages.Seat.{Seat}
use Rattle.file_layout.specs.Trees.{is_placed, page_in, within_frame, framed, FileTree, faulty, page_at, IsTreePage, Found, both, page_alone, leaf_of, child_of, AreChildren, IsTree, root_seat, IsWhole}
use Rattle.file_layout.specs.Walk.{BadPage, after, and_after, through, children, below, walk, Leads, IsBadPage, Adds, StopsWalk, StopsTree}
use Rattle.file_layout.proofs.SeatLaws.{page_in-level, page_in-low}

-- ---- one page

-- a frame's content, of a page that is right
frame_parts : (rule : ℕ → ℕ) (leaf : ℕ) (seat : Seat) (r : Result (List ℕ) PageFault) (page : Page) → faulty (within_frame rule leaf seat r) ≡ Ok page
    → (body : List ℕ) × (r ≡ Ok body) × (page_in rule leaf seat body ≡ Ok page)
frame_parts rule leaf seat (Err fault) page e = absurd (cc)
frame_parts rule leaf seat (Ok body) page e = (body, refl, unfaulty (page_in rule leaf seat body) page e)
  where
    unfaulty : (r : Result Page PageFault) (page : Page) → faulty r ≡ Ok page → r ≡ Ok page
    unfaulty (Ok got) page e = ap Ok (cc)
    unfaulty (Err fault) page e = absurd (cc)

-- a page that may stand there, and one that may not
placed_parts : (p : Bool) (r : Result Page PageRefusal) (page : Page) → (if p then r else Err Outside) ≡ Ok page → (p ≡ true) × (r ≡ Ok page)
placed_parts true r page e = (refl, e)
placed_parts false r page e = absurd (cc)

-- the page in a seat stands in the file, where eof lies within the file
pub stands : (t : FileTree) (seat : Seat) (page : Page) → t.eof ≤ length t.file → page_at t seat ≡ Ok page → IsTreePage t seat page
unfolding page_at framed
stands t seat page whole e =
    let b : List ℕ = take 512 (drop seat.at.ib t.file) in
    let parts : (is_placed t.eof seat.at.ib ≡ true) × (faulty (within_frame t.rule t.leaf seat (reading t.kind seat.at b)) ≡ Ok page) = placed_parts (is_placed t.eof seat.at.ib) _ page e in
    let frame : (body : List ℕ) × (reading t.kind seat.at b ≡ Ok body) × (page_in t.rule t.leaf seat body ≡ Ok page) = frame_parts t.rule t.leaf seat (reading t.kind seat.at b) page parts.1 in
    let place : (leb 0x4400 seat.at.ib ≡ true) × (eqb (seat.at.ib % 64) 0 && leb (seat.at.ib + 512) t.eof ≡ true) = and_parts _ _ parts.0 in
    let rest : (eqb (seat.at.ib % 64) 0 ≡ true) × (leb (seat.at.ib + 512) t.eof ≡ true) = and_parts _ _ place.1 in
    let before : seat.at.ib + 512 ≤ t.eof = leb-true (seat.at.ib + 512) t.eof rest.1 in
    record {
      body = frame.0;
      stands = record {
        multiple = eqb-true (seat.at.ib % 64) 0 rest.0;
        above = leb-true 0x4400 seat.at.ib place.0;
        before = before;
        framed = (length-take-le 512 (drop seat.at.ib t.file) (omega (arith, length-drop seat.at.ib t.file, before, whole)), frame.1);
      };
      content = frame.2;
    }

-- and a page that stands there is read
pub stands-read : (t : FileTree) (seat : Seat) (page : Page) → IsTreePage t seat page → page_at t seat ≡ Ok page
unfolding page_at framed
stands-read t seat page here =
    rw (
      le-leb 0x4400 seat.at.ib here.stands.above,
      eq-eqb (seat.at.ib % 64) 0 here.stands.multiple,
      le-leb (seat.at.ib + 512) t.eof here.stands.before,
      here.stands.framed.1,
      here.content,
    ) refl

-- a page that is right, by its content
content_of : (t : FileTree) (seat : Seat) (page : Page) → page_at t seat ≡ Ok page → (body : List ℕ) × (page_in t.rule t.leaf seat body ≡ Ok page)
unfolding page_at framed
content_of t seat page e =
    let b : List ℕ = take 512 (drop seat.at.ib t.file) in
    let parts : (is_placed t.eof seat.at.ib ≡ true) × (faulty (within_frame t.rule t.leaf seat (reading t.kind seat.at b)) ≡ Ok page) = placed_parts (is_placed t.eof seat.at.ib) _ page e in
    let frame : (body : List ℕ) × (reading t.kind seat.at b ≡ Ok body) × (page_in t.rule t.leaf seat body ≡ Ok page) = frame_parts t.rule t.leaf seat (reading t.kind seat.at b) page parts.1 in
    (frame.0, frame.2)

pub page_at-level : (t : FileTree) (seat : Seat) (page : Page) (n : ℕ) → seat.level ≡ Some n → page_at t seat ≡ Ok page → page.level ≡ n
page_at-level t seat page n wants e =
    let content = content_of t seat page e in
    page_in-level t.rule t.leaf seat content.0 page n wants content.1

pub page_at-low : (t : FileTree) (seat : Seat) (page : Page) → page_at t seat ≡ Ok page → page.level ≤ 7
page_at-low t seat page e =
    let content = content_of t seat page e in
    page_in-low t.rule t.leaf seat content.0 page content.1

-- ---- readings and trees

-- what a seat leads to, where its page has this level
abbrev pub reading_of : FileTree → ℕ → Seat → Result Found BadPage
reading_of t n seat = through seat (page_at t seat) (λ page. below t n seat.high page.entries)

-- the seat's page, if it is right, has this level
abbrev pub HasLevel : FileTree → ℕ → Seat → Type 0
HasLevel t n seat = (page : Page) → page_at t seat ≡ Ok page → page.level ≡ n

-- a reading through a page that is right
through-ok : (seat : Seat) (r : Result Page PageRefusal) (leads : Page → Result Found BadPage) (found : Found) → through seat r leads ≡ Ok found
    → (page : Page) × (later : Found) × (r ≡ Ok page) × (leads page ≡ Ok later) × (found ≡ both (page_alone seat) later)
through-ok seat (Err fault) leads found e = absurd (cc)
through-ok seat (Ok page) leads found e = by_later (leads page) refl e
  where
    by_later : (l : Result Found BadPage) → leads page ≡ l → after (page_alone seat) l ≡ Ok found
        → (page' : Page) × (later : Found) × (◌≡◌ {A = Result Page PageRefusal} (Ok page) (Ok page')) × (leads page' ≡ Ok later) × (found ≡ both (page_alone seat) later)
    by_later (Ok later) is e = (page, later, refl, is, cc)
    by_later (Err bad) is e = absurd (cc)

-- two readings one behind the other
and_after-ok : (x y : Result Found BadPage) (found : Found) → and_after x y ≡ Ok found
    → (first : Found) × (later : Found) × (x ≡ Ok first) × (y ≡ Ok later) × (found ≡ both first later)
and_after-ok (Err bad) y found e = absurd (cc)
and_after-ok (Ok first) (Err bad) found e = absurd (cc)
and_after-ok (Ok first) (Ok later) found e = (first, later, refl, refl, cc)

children-ok : (read : Seat → Result Found BadPage) (P : Seat → Found → Type 0) (rule : ℕ → ℕ) (n high : ℕ)
    → ((seat : Seat) (found : Found) → seat.level ≡ Some n → read seat ≡ Ok found → P seat found)
    → (entries : List (List ℕ)) (found : Found) → children read rule n high entries ≡ Ok found → AreChildren P rule n high entries found
unfolding children
children-ok read P rule n high each [] found e = cc
children-ok read P rule n high each (entry ∷ rest) found e =
    let parts : (first : Found) × (later : Found) × (read (child_of rule n high entry rest) ≡ Ok first) × (children read rule n high rest ≡ Ok later) × (found ≡ both first later) =
    and_after-ok (read (child_of rule n high entry rest)) (children read rule n high rest) found e in
    (parts.0, parts.1, each (child_of rule n high entry rest) parts.0 refl parts.2, children-ok read P rule n high each rest parts.1 parts.3, parts.4)

children-are : (read : Seat → Result Found BadPage) (P : Seat → Found → Type 0) (rule : ℕ → ℕ) (n high : ℕ)
    → ((seat : Seat) (found : Found) → P seat found → read seat ≡ Ok found)
    → (entries : List (List ℕ)) (found : Found) → AreChildren P rule n high entries found → children read rule n high entries ≡ Ok found
unfolding children
children-are read P rule n high each [] found are = ap Ok (sym are)
children-are read P rule n high each (entry ∷ rest) found are =
    let one : read (child_of rule n high entry rest) ≡ Ok are.0 = each (child_of rule n high entry rest) are.0 are.2 in
    let more : children read rule n high rest ≡ Ok are.1 = children-are read P rule n high each rest are.1 are.3 in
    rw (one, more) (ap Ok (sym are.4))

-- a reading gives what the tree gives
reading-tree : (t : FileTree) (n : ℕ) (seat : Seat) (found : Found) → t.eof ≤ length t.file → HasLevel t n seat → reading_of t n seat ≡ Ok found → IsTree t n seat found
unfolding below
reading-tree t zero seat found whole level e =
    let parts : (page : Page) × (later : Found) × (page_at t seat ≡ Ok page) × (below t zero seat.high page.entries ≡ Ok later) × (found ≡ both (page_alone seat) later) =
    through-ok seat (page_at t seat) (λ page. below t zero seat.high page.entries) found e in
    let same : leaf_of parts.0.entries ≡ parts.1 = let h = parts.3 in cc in
    (parts.0, stands t seat parts.0 whole parts.2, level parts.0 parts.2, parts.4 ∙ ap (both (page_alone seat)) (sym same))
reading-tree t (suc n) seat found whole level e =
    let parts : (page : Page) × (later : Found) × (page_at t seat ≡ Ok page) × (below t (suc n) seat.high page.entries ≡ Ok later) × (found ≡ both (page_alone seat) later) =
    through-ok seat (page_at t seat) (λ page. below t (suc n) seat.high page.entries) found e in (
      parts.0,
      parts.1,
      stands t seat parts.0 whole parts.2,
      level parts.0 parts.2,
      children-ok (reading_of t n) (IsTree t n) t.rule n seat.high (λ child got wants h. reading-tree t n child got whole (λ page is. page_at-level t child page n wants is) h) parts.0.entries parts.1 parts.3,
      parts.4,
    )

-- and the tree is what a reading gives
tree-reading : (t : FileTree) (n : ℕ) (seat : Seat) (found : Found) → IsTree t n seat found → reading_of t n seat ≡ Ok found
unfolding below
tree-reading t zero seat found tree = rw (stands-read t seat tree.0 tree.1) (ap Ok (sym tree.3))
tree-reading t (suc n) seat found tree =
    let more : children (reading_of t n) t.rule n seat.high tree.0.entries ≡ Ok tree.1 =
    children-are (reading_of t n) (IsTree t n) t.rule n seat.high (λ child got h. tree-reading t n child got h) tree.0.entries tree.1 tree.4 in
    rw (stands-read t seat tree.0 tree.2, more) (ap Ok (sym tree.5))

-- ---- a root

walk-of : (t : FileTree) (seat : Seat) (page : Page) → page_at t seat ≡ Ok page → walk t seat ≡ reading_of t page.level seat
unfolding walk
walk-of t seat page is =
    ap (λ (r : Result Page PageRefusal). through seat r (λ q. below t q.level seat.high q.entries)) is
    ∙ sym (ap (λ (r : Result Page PageRefusal). through seat r (λ q. below t page.level seat.high q.entries)) is)

pub same_page : (r : Result Page PageRefusal) (page got : Page) → r ≡ Ok page → r ≡ Ok got → got ≡ page
same_page r page got e h = let both_are : ◌≡◌ {A = Result Page PageRefusal} (Ok page) (Ok got) = sym e ∙ h in cc

-- what a root leads to is its tree
pub walk-whole : (t : FileTree) (root : Bref) (found : Found) → t.eof ≤ length t.file → walk t (root_seat root) ≡ Ok found → IsWhole t root found
unfolding walk
walk-whole t root found whole e =
    let seat : Seat = root_seat root in
    let parts : (page : Page) × (later : Found) × (page_at t seat ≡ Ok page) × (below t page.level seat.high page.entries ≡ Ok later) × (found ≡ both (page_alone seat) later) =
    through-ok seat (page_at t seat) (λ page. below t page.level seat.high page.entries) found e in
    let page : Page = parts.0 in
    let level : HasLevel t page.level seat = λ got is. ap (λ (p : Page). p.level) (same_page (page_at t seat) page got parts.2 is) in
    record {
      level = page.level;
      low_enough = page_at-low t seat page parts.2;
      tree = reading-tree t page.level seat found whole level (sym (walk-of t seat page parts.2) ∙ e);
    }

-- and its tree is what it leads to
tree-page : (t : FileTree) (n : ℕ) (seat : Seat) (found : Found) → IsTree t n seat found → (page : Page) × (page_at t seat ≡ Ok page) × (page.level ≡ n)
tree-page t zero seat found tree = (tree.0, stands-read t seat tree.0 tree.1, tree.2)
tree-page t (suc n) seat found tree = (tree.0, stands-read t seat tree.0 tree.2, tree.3)

pub whole-walk : (t : FileTree) (root : Bref) (found : Found) → IsWhole t root found → walk t (root_seat root) ≡ Ok found
whole-walk t root found here =
    let top : (page : Page) × (page_at t (root_seat root) ≡ Ok page) × (page.level ≡ here.level) = tree-page t here.level (root_seat root) found here.tree in
    walk-of t (root_seat root) top.0 top.1 ∙ ap (λ (n : ℕ). reading_of t n (root_seat root)) top.2 ∙ tree-reading t here.level (root_seat root) found here.tree

-- the file's bytes determine what a root's tree gives
pub found_same : {r : Result Found BadPage} {found got : Found} → r ≡ Ok found → r ≡ Ok got → found ≡ got
found_same {r} {found} {got} e h = let both_are : ◌≡◌ {A = Result Found BadPage} (Ok found) (Ok got) = sym e ∙ h in cc

pub adds-same : {E : Type 0} {entry_of : List ℕ → E} {old_entries new_entries : List E} {old_pages new_pages : List Bref} (found got : Found) → found ≡ got
    → Adds entry_of found old_entries new_entries old_pages new_pages → Adds entry_of got old_entries new_entries old_pages new_pages
adds-same {E} {entry_of} {old_entries} {new_entries} {old_pages} {new_pages} found got same adds =
    subst (λ (f : Found). Adds entry_of f old_entries new_entries old_pages new_pages) same adds

-- ---- where a reading stops

-- from a seat a path leads to a page at fault, at that place
pub record Stopped (t : FileTree) (top : Seat) (bad : BadPage) : Type 0 where
  pub path : List ℕ
  pub seat : Seat
  pub reached : Leads t top path seat
  pub place : seat.at.ib ≡ bad.ib
  pub at_fault : page_at t seat ≡ Err bad.fault

-- the same below some of a page's children
pub record StoppedBelow (t : FileTree) (n high : ℕ) (entries : List (List ℕ)) (bad : BadPage) : Type 0 where
  pub place : ℕ
  pub entry : List ℕ
  pub rest : List (List ℕ)
  pub here : drop place entries ≡ entry ∷ rest
  pub stopped : Stopped t (child_of t.rule n high entry rest) bad

and_after-err : (x y : Result Found BadPage) (bad : BadPage) → and_after x y ≡ Err bad → (x ≡ Err bad) ⊎ (y ≡ Err bad)
and_after-err (Err first) y bad e = inl e
and_after-err (Ok first) (Err later) bad e = inr e
and_after-err (Ok first) (Ok later) bad e = absurd (cc)

children-stopped : (t : FileTree) (n high : ℕ) → ((seat : Seat) (bad : BadPage) → seat.level ≡ Some n → reading_of t n seat ≡ Err bad → Stopped t seat bad)
    → (entries : List (List ℕ)) (bad : BadPage) → children (reading_of t n) t.rule n high entries ≡ Err bad → StoppedBelow t n high entries bad
unfolding children
children-stopped t n high each [] bad e = absurd (cc)
children-stopped t n high each (entry ∷ rest) bad e =
    ⊎_elim
    (λ (first : reading_of t n (child_of t.rule n high entry rest) ≡ Err bad).
    record { place = 0; entry = entry; rest = rest; here = refl; stopped = each (child_of t.rule n high entry rest) bad refl first })
    (λ (later : children (reading_of t n) t.rule n high rest ≡ Err bad).
    let more : StoppedBelow t n high rest bad = children-stopped t n high each rest bad later in
    record { place = suc more.place; entry = more.entry; rest = more.rest; here = more.here; stopped = more.stopped })
    (and_after-err (reading_of t n (child_of t.rule n high entry rest)) (children (reading_of t n) t.rule n high rest) bad e)

-- a page that is at fault, or something below it
through-err : (seat : Seat) (r : Result Page PageRefusal) (leads : Page → Result Found BadPage) (bad : BadPage) → through seat r leads ≡ Err bad
    → ((fault : PageRefusal) × (r ≡ Err fault) × (bad ≡ record { ib = seat.at.ib; fault = fault })) ⊎ ((page : Page) × (r ≡ Ok page) × (leads page ≡ Err bad))
through-err seat (Err fault) leads bad e = inl (fault, refl, cc)
through-err seat (Ok page) leads bad e = inr (page, refl, later (leads page) e)
  where
    later : (l : Result Found BadPage) → after (page_alone seat) l ≡ Err bad → l ≡ Err bad
    later (Ok found) e = absurd (cc)
    later (Err other) e = ap Err (cc)

stopped-here : (t : FileTree) (seat : Seat) (bad : BadPage) (fault : PageRefusal) → page_at t seat ≡ Err fault → bad ≡ record { ib = seat.at.ib; fault = fault } → Stopped t seat bad
stopped-here t seat bad fault e is = record {
  path = [];
  seat = seat;
  reached = refl;
  place = ap (λ (b : BadPage). b.ib) (sym is);
  at_fault = e ∙ ap (λ (b : BadPage). Err b.fault) (sym is);
}

reading-stopped : (t : FileTree) (n : ℕ) (seat : Seat) (bad : BadPage) → HasLevel t n seat → reading_of t n seat ≡ Err bad → Stopped t seat bad
unfolding below
reading-stopped t zero seat bad level e =
    ⊎_elim
    (λ (h : (fault : PageRefusal) × (page_at t seat ≡ Err fault) × (bad ≡ record { ib = seat.at.ib; fault = fault })). stopped-here t seat bad h.0 h.1 h.2)
    (λ (h : (page : Page) × (page_at t seat ≡ Ok page) × (below t zero seat.high page.entries ≡ Err bad)). absurd (let f = h.2 in cc))
    (through-err seat (page_at t seat) (λ page. below t zero seat.high page.entries) bad e)
reading-stopped t (suc n) seat bad level e =
    ⊎_elim
    (λ (h : (fault : PageRefusal) × (page_at t seat ≡ Err fault) × (bad ≡ record { ib = seat.at.ib; fault = fault })). stopped-here t seat bad h.0 h.1 h.2)
    (λ (h : (page : Page) × (page_at t seat ≡ Ok page) × (below t (suc n) seat.high page.entries ≡ Err bad)).
    let more : StoppedBelow t n seat.high h.0.entries bad =
    children-stopped t n seat.high (λ child other wants f. reading-stopped t n child other (λ page is. page_at-level t child page n wants is) f) h.0.entries bad h.2 in
    record {
      path = more.place ∷ more.stopped.path;
      seat = more.stopped.seat;
      reached = (h.0, n, more.entry, more.rest, h.1, level h.0 h.1, more.here, more.stopped.reached);
      place = more.stopped.place;
      at_fault = more.stopped.at_fault;
    })
    (through-err seat (page_at t seat) (λ page. below t (suc n) seat.high page.entries) bad e)

-- a root at which the reading stops has no tree
pub walk-bad : (t : FileTree) (root : Bref) (ib : ℕ) (fault : PageRefusal) → walk t (root_seat root) ≡ Err (record { ib = ib; fault = fault }) → IsBadPage t root ib fault
unfolding walk
walk-bad t root ib fault e =
    let bad : BadPage = record { ib = ib; fault = fault } in
    let seat : Seat = root_seat root in
    let stopped : Stopped t seat bad =
    ⊎_elim
    (λ (h : (f : PageRefusal) × (page_at t seat ≡ Err f) × (bad ≡ record { ib = seat.at.ib; fault = f })). stopped-here t seat bad h.0 h.1 h.2)
    (λ (h : (page : Page) × (page_at t seat ≡ Ok page) × (below t page.level seat.high page.entries ≡ Err bad)).
    reading-stopped t h.0.level seat bad (λ got is. ap (λ (p : Page). p.level) (same_page (page_at t seat) h.0 got h.1 is)) (sym (walk-of t seat h.0 h.1) ∙ e))
    (through-err seat (page_at t seat) (λ page. below t page.level seat.high page.entries) bad e) in
    record {
      path = stopped.path;
      seat = stopped.seat;
      reached = stopped.reached;
      place = stopped.place;
      at_fault = stopped.at_fault;
      none = λ found whole. let both_are : ◌≡◌ {A = Result Found BadPage} (Err bad) (Ok found) = sym e ∙ whole-walk t root found whole in cc;
    }

pub stops-tree : (t : FileTree) (root : Bref) (stop : OpenStop) → StopsWalk stop (walk t (root_seat root)) → StopsTree stop t root
stops-tree t root Memory stops = tt
stops-tree t root Fault stops = tt
stops-tree t root (Changed ib stored computed) stops = stops
stops-tree t root (Refused (refusals.Page ib fault)) stops = walk-bad t root ib fault stops
stops-tree t root (Refused other) stops = stops
