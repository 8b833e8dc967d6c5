-- A tree's reading: page by page, each when it is reached, in the order of keys. It gives what the tree gives, or names the first page that is at fault.
use Rattle.std.specs.Prelude.{◌≡◌, ℕ, zero, suc, List, [], ◌∷◌, ◌++◌, map, take, drop, Contains, true, false, Result, Ok, Err}
use Rattle.pst_base.specs.declared.ids.Bref.{Bref}
use Rattle.btree_pages.specs.Pages.{Page}
use Rattle.file_layout.specs.declared.stops.OpenRefusal.TheVariants as refusals
use Rattle.file_layout.specs.declared.stops.OpenStop.{OpenStop}
use Rattle.file_layout.specs.declared.stops.OpenStop.TheVariants.{Refused, Fault, Changed, Memory}
use Rattle.file_layout.specs.declared.stops.PageRefusal.{PageRefusal}
use Rattle.file_layout.specs.declared.stops.PageRefusal.TheVariants.{Outside}
use Rattle.file_layout.specs.declared.tree_pages.Seat.{Seat}
use Rattle.file_layout.specs.Trees.{FileTree, is_placed, page_at, Found, nothing, both, page_alone, leaf_of, child_of, IsWhole, root_seat}

-- a page at fault: its place, and what is wrong
pub record BadPage : Type 0 where
  pub ib : ℕ
  pub fault : PageRefusal

-- one thing found after another, unless a page was at fault
abbrev pub after : Found → Result Found BadPage → Result Found BadPage
after first (Ok later) = Ok (both first later)
after first (Err bad) = Err bad

abbrev pub and_after : Result Found BadPage → Result Found BadPage → Result Found BadPage
and_after (Ok first) later = after first later
and_after (Err bad) later = Err bad

-- a page, and then what it leads to
abbrev pub through : Seat → Result Page PageRefusal → (Page → Result Found BadPage) → Result Found BadPage
through seat (Ok page) leads = after (page_alone seat) (leads page)
through seat (Err fault) leads = Err (record { ib = seat.at.ib; fault = fault })

-- what the children give, one behind the other
unfoldable pub children : (Seat → Result Found BadPage) → (ℕ → ℕ) → ℕ → ℕ → List (List ℕ) → Result Found BadPage
children read rule n high [] = Ok nothing
children read rule n high (entry ∷ rest) = and_after (read (child_of rule n high entry rest)) (children read rule n high rest)

-- what the entries of a page of a level lead to, where high is the page's greatest key
unfoldable pub below : FileTree → ℕ → ℕ → List (List ℕ) → Result Found BadPage
below t zero high entries = Ok (leaf_of entries)
below t (suc n) high entries = children (λ seat. through seat (page_at t seat) (λ page. below t n seat.high page.entries)) t.rule n high entries

-- what a seat leads to
unfoldable pub walk : FileTree → Seat → Result Found BadPage
walk t seat = through seat (page_at t seat) (λ page. below t page.level seat.high page.entries)

-- ---- what is said of it

-- what was found was put behind what was there
pub record Adds {E : Type 0} (entry_of : List ℕ → E) (found : Found) (old_entries new_entries : List E) (old_pages new_pages : List Bref) : Type 0 where
  pub entries : new_entries ≡ old_entries ++ map entry_of found.entries
  pub pages : new_pages ≡ old_pages ++ found.pages

-- a refusal names the page at which the reading stopped
abbrev pub StopsWalk : OpenStop → Result Found BadPage → Type 0
StopsWalk Memory read = Unit {0}
StopsWalk Fault read = Unit {0}
StopsWalk (Changed ib stored computed) read = ⊥
StopsWalk (Refused (refusals.Page ib fault)) read = read ≡ Err (record { ib = ib; fault = fault })
StopsWalk (Refused other) read = ⊥

-- the bytes of a seat's page, where one may stand there
pub record Stands (eof : ℕ) (seat : Seat) (file b : List ℕ) : Type 0 where
  pub placed : is_placed eof seat.at.ib ≡ true
  pub bytes : b ≡ take 512 (drop seat.at.ib file)

-- a refusal says that no page may stand there
abbrev pub StopsOutside : OpenStop → ℕ → Seat → Type 0
StopsOutside Fault eof seat = Unit {0}
StopsOutside (Changed ib stored computed) eof seat = ⊥
StopsOutside Memory eof seat = ⊥
StopsOutside (Refused refusal) eof seat = (refusal ≡ refusals.Page seat.at.ib Outside) × (is_placed eof seat.at.ib ≡ false)

-- going from a seat to the children of these numbers, one below the other, leads to a seat
abbrev pub Leads : FileTree → Seat → List ℕ → Seat → Type 0
Leads t top [] seat = seat ≡ top
Leads t top (i ∷ path) seat =
    (page : Page) × (n : ℕ) × (entry : List ℕ) × (rest : List (List ℕ)) × (page_at t top ≡ Ok page) × (page.level ≡ suc n)
    × (drop i page.entries ≡ entry ∷ rest) × Leads t (child_of t.rule n top.high entry rest) path seat

-- an entry stands in a leaf to which a path leads from a seat
pub record IsReached (t : FileTree) (top : Seat) (entry : List ℕ) : Type 0 where
  pub path : List ℕ
  pub seat : Seat
  pub leads : Leads t top path seat
  pub page : Page
  pub right : page_at t seat ≡ Ok page
  pub leaf : page.level ≡ 0
  pub has : Contains page.entries entry

-- what was put behind the entries that were there stands in leaves that are reached
pub record AddsReached {E : Type 0} (entry_of : List ℕ → E) (t : FileTree) (top : Seat) (old new : List E) : Type 0 where
  pub some : List (List ℕ)
  pub entries : new ≡ old ++ map entry_of some
  pub reached : (entry : List ℕ) → Contains some entry → IsReached t top entry

-- the same where the reading stops with a refusal
abbrev pub AddsBefore : {E : Type 0} → OpenStop → (List ℕ → E) → FileTree → Seat → List E → List E → Type 0
AddsBefore Memory entry_of t top old new = Unit {0}
AddsBefore Fault entry_of t top old new = Unit {0}
AddsBefore (Changed ib stored computed) entry_of t top old new = Unit {0}
AddsBefore (Refused refusal) entry_of t top old new = AddsReached entry_of t top old new

-- a page that is reached from a root is at fault, and so the root has no tree
pub record IsBadPage (t : FileTree) (root : Bref) (ib : ℕ) (fault : PageRefusal) : Type 0 where
  pub path : List ℕ
  pub seat : Seat
  pub reached : Leads t (root_seat root) path seat
  pub place : seat.at.ib ≡ ib
  pub at_fault : page_at t seat ≡ Err fault
  pub none : (found : Found) → IsWhole t root found → ⊥

-- what a stop says of a root's tree: a refusal comes only where a page is at fault
abbrev pub StopsTree : OpenStop → FileTree → Bref → Type 0
StopsTree Memory t root = Unit {0}
StopsTree Fault t root = Unit {0}
StopsTree (Changed ib stored computed) t root = ⊥
StopsTree (Refused (refusals.Page ib fault)) t root = IsBadPage t root ib fault
StopsTree (Refused other) t root = ⊥
