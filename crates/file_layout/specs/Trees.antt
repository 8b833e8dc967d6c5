-- The trees of pages in a file, by levels: the pages that they reach, and the entries of their leaves in order.
use Rattle.std.specs.Prelude.{◌≡◌, ℕ, zero, suc, ◌+◌, ◌-◌, ◌%◌, ◌^◌, ◌≤◌, ◌==◌, ◌&&◌, nat_le, nat_lt, not, if◌then◌else◌, Bool, true, List, [], ◌∷◌, ◌++◌, map, take, drop, Result, Ok, Err, Option, Some, None, ◌||◌}
use Rattle.pst_base.specs.declared.ids.Bref.{Bref}
use Rattle.pst_base.specs.declared.places.Place.{Place}
use Rattle.pst_base.specs.declared.stops.PageFault.{PageFault}
use Rattle.pst_base.specs.declared.stops.PageFault.TheVariants.{Count, Level, Key}
use Rattle.pst_base.specs.Fields.{number_at}
use Rattle.pst_outside.specs.World.{Image}
use Rattle.alloc_map.specs.page_frame.Page.{reading, IsPage}
use Rattle.btree_pages.specs.Entries.{inner_of}
use Rattle.btree_pages.specs.Pages.{Page, pieces, size_at, key_in, keys, ascend, is_counted}
use Rattle.file_layout.specs.declared.stops.PageRefusal.{PageRefusal}
use Rattle.file_layout.specs.declared.stops.PageRefusal.TheVariants.{Outside, Faulty}
use Rattle.file_layout.specs.declared.tree_pages.Seat.{Seat}
-- the store's file
pub use Rattle.file_blocks.specs.Blocks.{file_of}
use Rattle.file_blocks.specs.Blocks.{has_room}

-- ---- one page

-- a page may stand there: at a multiple of 64, at or above the first map, and ending at or before eof
abbrev pub is_placed : ℕ → ℕ → Bool
is_placed eof ib = has_room eof 512 ib

-- a page of a kind stands in the file with this content, under an id and at a place that are right
pub record FilePage (file : List ℕ) (eof kind : ℕ) (at : Bref) (body : List ℕ) : Type 0 where
  pub multiple : at.ib % 64 ≡ 0
  pub above : 0x4400 ≤ at.ib
  pub before : at.ib + 512 ≤ eof
  pub framed : IsPage kind at body (take 512 (drop at.ib file))

-- each key is one from low to high
abbrev pub in_span : ℕ → ℕ → List ℕ → Bool
in_span low high [] = true
in_span low high (k ∷ ks) = (nat_le low k && nat_le k high) && in_span low high ks

-- only a root may be empty
abbrev pub may_have : Option ℕ → ℕ → Bool
may_have None count = true
may_have (Some level) count = not (count == 0)

-- a child has the level that its parent wants
abbrev pub is_wanted : Option ℕ → ℕ → Bool
is_wanted None level = true
is_wanted (Some wanted) level = level == wanted

-- a page of a level that is known, with entries of this size, in a seat: the first fault in the order Count, Level, Key, or the page
unfoldable pub page_with : (ℕ → ℕ) → ℕ → ℕ → Seat → List ℕ → Result Page PageFault
page_with rule size level seat b =
    if not (is_counted size b && may_have seat.level (number_at 1 488 b)) then Err Count
    else (if nat_lt 7 level || not (is_wanted seat.level level) then Err Level
    else (if not (ascend (keys rule (pieces size (number_at 1 488 b) b)) && in_span seat.low seat.high (keys rule (pieces size (number_at 1 488 b) b))) then Err Key
    else Ok (record { level = level; entries = pieces size (number_at 1 488 b) b })))

-- the first fault of a child against its parent, but for its keys
abbrev pub owed : Option ℕ → List ℕ → Option PageFault
owed None b = None
owed (Some wanted) b = if number_at 1 488 b == 0 then Some Count else (if not (number_at 1 491 b == wanted) then Some Level else None)

-- the first fault of a page that has this one in any tree
abbrev pub sooner : PageFault → Option PageFault → PageFault
sooner Count owed = Count
sooner fault None = fault
sooner fault (Some owed) = owed

-- the page that a content is in a seat
unfoldable pub page_in : (ℕ → ℕ) → ℕ → Seat → List ℕ → Result Page PageFault
page_in rule leaf seat b = page_with rule (size_at leaf (number_at 1 491 b)) (number_at 1 491 b) seat b

-- the page that a frame's content is in a seat, or the frame's fault
abbrev pub within_frame : (ℕ → ℕ) → ℕ → Seat → Result (List ℕ) PageFault → Result Page PageFault
within_frame rule leaf seat (Ok body) = page_in rule leaf seat body
within_frame rule leaf seat (Err fault) = Err fault

-- the page that 512 bytes are in a seat
unfoldable pub framed : ℕ → (ℕ → ℕ) → ℕ → Seat → List ℕ → Result Page PageFault
framed kind rule leaf seat b = within_frame rule leaf seat (reading kind seat.at b)

-- a file with its end, and one of its trees: the kind of its pages, the size of a leaf's entries, and the rule of its keys
pub record FileTree : Type 0 where
  pub file : List ℕ
  pub eof : ℕ
  pub kind : ℕ
  pub leaf : ℕ
  pub rule : ℕ → ℕ

-- a tree in the store's file
abbrev pub tree_in : Image → ℕ → ℕ → ℕ → (ℕ → ℕ) → FileTree
tree_in image eof kind leaf rule = record { file = file_of image; eof = eof; kind = kind; leaf = leaf; rule = rule }

abbrev pub faulty : Result Page PageFault → Result Page PageRefusal
faulty (Ok page) = Ok page
faulty (Err fault) = Err (Faulty fault)

-- the page in a seat of the tree, or the first thing that is wrong with it
unfoldable pub page_at : FileTree → Seat → Result Page PageRefusal
page_at t seat = if is_placed t.eof seat.at.ib then faulty (framed t.kind t.rule t.leaf seat (take 512 (drop seat.at.ib t.file))) else Err Outside

-- a page is in a seat of the tree: it stands in the file, and its content is right there
pub record IsTreePage (t : FileTree) (seat : Seat) (page : Page) : Type 0 where
  pub body : List ℕ
  pub stands : FilePage t.file t.eof t.kind seat.at body
  pub content : page_in t.rule t.leaf seat body ≡ Ok page

-- ---- places

-- a place may be one of a page or a block in a file that ends at eof
pub record IsPlace (eof : ℕ) (p : Place) : Type 0 where
  pub above : 0x4400 ≤ p.ib
  pub start : p.ib % 64 ≡ 0
  pub whole : p.len % 64 ≡ 0
  pub before : p.ib + p.len ≤ eof

-- where a page stands
abbrev pub page_place : Bref → Place
page_place at = record { ib = at.ib; len = 512 }

-- each page may stand where it is said to
abbrev pub AllPages : ℕ → List Bref → Type 0
AllPages eof [] = Unit {0}
AllPages eof (at ∷ pages) = IsPlace eof (page_place at) × AllPages eof pages

-- ---- a tree

-- what a tree gives: the entries of its leaves, each as its bytes, and its pages, each by its id and its place
pub record Found : Type 0 where
  pub entries : List (List ℕ)
  pub pages : List Bref

-- where the pages stand
abbrev pub page_places : Found → List Place
page_places found = map page_place found.pages

abbrev pub nothing : Found
nothing = record { entries = []; pages = [] }

abbrev pub both : Found → Found → Found
both first later = record { entries = first.entries ++ later.entries; pages = first.pages ++ later.pages }

-- the page in a seat, without what lies below
abbrev pub page_alone : Seat → Found
page_alone seat = record { entries = []; pages = seat.at ∷ [] }

-- a leaf's entries
abbrev pub leaf_of : List (List ℕ) → Found
leaf_of entries = record { entries = entries; pages = [] }

-- the key of an inner page's entry
abbrev pub key_below : (ℕ → ℕ) → List ℕ → ℕ
key_below rule entry = rule (inner_of entry).key

-- the greatest key before the next entry's, or where there is none the parent's own
abbrev pub before_next : (ℕ → ℕ) → ℕ → List (List ℕ) → ℕ
before_next rule high [] = high
before_next rule high (entry ∷ rest) = key_below rule entry - 1

-- the seat that an entry names, which others follow, in a page of level n + 1 whose greatest key is high
abbrev pub child_of : (ℕ → ℕ) → ℕ → ℕ → List ℕ → List (List ℕ) → Seat
child_of rule n high entry rest =
    record { at = (inner_of entry).page; level = Some n; low = key_below rule entry; high = before_next rule high rest }

-- the children that entries name have P, each of a part of what they give, in order
abbrev pub AreChildren : (Seat → Found → Type 0) → (ℕ → ℕ) → ℕ → ℕ → List (List ℕ) → Found → Type 0
AreChildren P rule n high [] found = found ≡ nothing
AreChildren P rule n high (entry ∷ rest) found =
    (first : Found) × (later : Found) × P (child_of rule n high entry rest) first × AreChildren P rule n high rest later × (found ≡ both first later)

-- A tree of a level below a seat gives this: a leaf its entries, and an inner page what its children give.
abbrev pub IsTree : FileTree → ℕ → Seat → Found → Type 0
IsTree t zero seat found = (page : Page) × IsTreePage t seat page × (page.level ≡ 0) × (found ≡ both (page_alone seat) (leaf_of page.entries))
IsTree t (suc n) seat found =
    (page : Page) × (below : Found) × IsTreePage t seat page × (page.level ≡ suc n) × AreChildren (IsTree t n) t.rule n seat.high page.entries below
    × (found ≡ both (page_alone seat) below)

-- a root's seat: any level up to 7, and any key
abbrev pub root_seat : Bref → Seat
root_seat at = record { at = at; level = None; low = 0; high = 2 ^ 64 - 1 }

-- the tree of a root gives this
pub record IsWhole (t : FileTree) (root : Bref) (found : Found) : Type 0 where
  pub level : ℕ
  pub low_enough : level ≤ 7
  pub tree : IsTree t level (root_seat root) found

-- the keys of entries ascend strictly, and the first isn't below low
abbrev pub rise_from : (ℕ → ℕ) → ℕ → List (List ℕ) → Bool
rise_from rule low [] = true
rise_from rule low (b ∷ bs) = nat_le low (key_in rule b) && rise_from rule (key_in rule b + 1) bs
