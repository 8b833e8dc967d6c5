-- The keeper of a file from its scan to the end of an opening.
use Rattle.std.proofs.Common.{◌≡◌, ◌<◌, inr, ◌∙◌, ℕ, ◌^◌, nat_le, Bool, true, false, List, take, Result, Ok, Err, IfErr, arith, refl, sym, ap, subst, ◌||◌}
use Rattle.std.proofs.lemmas.Bool.{leb-false}
use Rattle.std.specs.Result.{IsErrAnd}
use Rattle.pst_outside.specs.World.{Image, World}
use Rattle.pst_outside.specs.Calls.{Untouched}
use Rattle.pst_header.specs.declared.header.Header.{Header}
use Rattle.pst_header.specs.Format.{reading}
use Rattle.gate_file.specs.Effective.{effective, header_bytes}
use Rattle.gate_file.specs.Gate.{SameStore}
use Rattle.file_blocks.specs.Blocks.{file_of}
use Rattle.file_blocks.proofs.FileLaws.{no_shorter}
use Rattle.file_layout.specs.Opening.{opening}
use Rattle.file_scan.specs.Found.{IsFound}
use Rattle.file_scan.specs.declared.scan.FoundFile.{FoundFile}
use Rattle.node_port.specs.Nodes.{Nodes}
use Rattle.node_port.specs.Stops.{Room}
use Rattle.lays_kept.specs.Stands.{AreThose, Stands}
use Rattle.lays_kept.proofs.Opened.{front_is, opens_parts, stands_opens}
use Rattle.pst_commit.specs.Keeping.{Holds}
use Rattle.pst_commit.proofs.Holding.{same_header}
use Rattle.pst_commit.proofs.Outcomes.{stands_over}
use Rattle.mail_searches.specs.Searching.{Searching}
use Rattle.store_open.specs.tree_look.Walk.{Looks}
use Rattle.store_open.specs.Opening.{KnowsTree, LooksTree, StopsLook, StopsTree}
use Rattle.store_open.specs.declared.open.OpenedTree.{OpenedTree}
use Rattle.store_open.specs.declared.stops.TreeStop.{TreeStop}
use Rattle.file_open.specs.Opening.{IsChecked, IsKept, IsLooked, IsOpened, LaysNodes, Reads, ReadsFresh, StopsLooking, StopsOpening, spent_in}
use Rattle.file_open.specs.Stops.{of_tree}
use Rattle.file_open.specs.declared.stops.FileRefusal.TheVariants.{Ids}
use Rattle.file_open.specs.declared.stops.FileStop.{FileStop}
use Rattle.file_open.specs.declared.stops.FileStop.TheVariants.{Refused}
use Rattle.file_open.proofs.Files.{header_once, laid_found, same_spent, some_nodes, spent_excludes, spent_found, tree_stops, tree_stops_look}

-- files that lay nodes stand for them, whatever their header vouches for, as long as it is the one that was found
abbrev pub laid_stands : {image : Image} {N : Nodes} {last : List ℕ} (bytes : List ℕ) → LaysNodes image N last → bytes ≡ take 564 (file_of image) → Stands bytes image N last
laid_stands {image} bytes laid front =
    let parts = opens_parts image.main image.side laid.header laid.opened in
    record {
      main = parts.0;
      side = parts.1;
      file = record {
        header = laid.header;
        long = omega (arith, parts.0, no_shorter image.main image.side);
        read = parts.2;
        m = laid.m;
        lays = laid.lays;
        those = laid.those;
        counters = laid.counters;
        maps = inr (inr (sym front));
      };
    }

pub kept : (knows : Header → List ℕ → Type 0) (bytes : List ℕ) (world : World) (found : FoundFile) → world.tells → bytes ≡ take 564 (file_of world.here)
    → ((image : Image) → IsFound image found → knows found.header (file_of image)) → IsKept knows bytes found.header world found
kept knows bytes world found told front knowing = record {
  own = refl;
  front = front;
  holds = λ is N those. (told, record { stands = laid_stands bytes (laid_found world.here found is N those) front; own = refl; known = knowing world.here is });
}

-- a file that was scanned, as it was at the start, with its keeper
pub record Scanned (knows : Header → List ℕ → Type 0) (bytes : List ℕ) (header : Header) (found : FoundFile) (old mid : World) : Type 0 where
  pub here : mid.here ≡ old.here
  pub is : IsFound mid.here found
  pub made : IsKept knows bytes header mid found

pub scanned : {knows : Header → List ℕ → Type 0} {bytes : List ℕ} {header : Header} {found : FoundFile} {old scan mid : World} → Untouched old scan → Untouched scan mid
    → (scan.tells → IsFound scan.here found) → (mid.tells → IsKept knows bytes header mid found) → mid.tells → Scanned knows bytes header found old mid
scanned {found = found} first then is made told =
    let before = then.stays.told told in
    record {
      here = then.stays.here told ∙ first.stays.here before;
      is = subst (λ (i : Image). IsFound i found) (sym (then.stays.here told)) (is before);
      made = made told;
    }

-- a stop that is passed on
pub passed_on : {A : Type 0} (P : FileStop → Type 0) (stop : FileStop) (result : Result A FileStop) → IsErrAnd result (λ e. e ≡ stop) → P stop → IfErr result P
passed_on P stop (Ok y) h p = absurd h
passed_on P stop (Err e) h p = rw h p

-- the bytes of the header that counts
pub counted : (image : Image) (header : Header) (bytes : List ℕ) → opening image.main image.side ≡ Ok header → bytes ≡ header_bytes image.main image.side
    → (bytes ≡ take 564 (file_of image)) × (reading bytes ≡ Ok header)
counted image header bytes opens are =
    let front : bytes ≡ take 564 (file_of image) = are ∙ sym (front_is image.main image.side) in
    (front, ap reading front ∙ (opens_parts image.main image.side header opens).2)

-- after a look at the tree of a file that was scanned
module _ {knows : Header → List ℕ → Type 0} {bytes : List ℕ} {header : Header} {found : FoundFile} {mid : World} (is : IsFound mid.here found) (made : IsKept knows bytes header mid found) where
  abbrev those : (N : Nodes) × AreThose is.nodes N
  those = some_nodes is.nodes

  abbrev laid : LaysNodes mid.here those.0 found.header.indexes
  laid = laid_found mid.here found is those.0 those.1

  abbrev has_spent : Bool
  has_spent = nat_le (2 ^ 61) found.next_block || nat_le (2 ^ 61) found.next_page

  spent_is : has_spent ≡ spent_in mid.here those.0 found.header.indexes laid
  spent_is = spent_found mid.here found is those.0 those.1

  -- the tree was refused
  pub refused_tree : (stop : TreeStop) → ((N : Nodes) → Holds knows bytes header mid N → StopsTree N stop) → StopsOpening mid.here (of_tree stop)
  refused_tree stop stops = tree_stops mid.here those.0 found.header.indexes laid stop (stops those.0 (made.holds is those.0 those.1))

  -- the tree was found
  pub opened : {knows' : Header → List ℕ → Type 0} {bytes' : List ℕ} {header' : Header} {room room' : Room} {now : World} (tree : OpenedTree)
      → Looks (Holds knows bytes header mid) (Holds knows' bytes' header' now) header.indexes header'.indexes room room' mid now → room.found ≡ bytes → room'.found ≡ bytes'
      → ((N : Nodes) → Holds knows bytes header mid N → KnowsTree N header.indexes tree) → IsOpened knows' bytes' header' mid.here now tree
  opened {knows'} {bytes'} {header'} {now = now} tree looks was has trees =
      let before = made.holds is those.0 those.1 in
      let held : Holds knows' bytes' header' now those.0 = looks.stays those.0 before in
      record {
        nodes = those.0;
        laid = record {
          header = found.header;
          opened = is.opened;
          m = is.nodes;
          lays = is.lays;
          those = those.1;
          counters = ap (λ (h : Header). h.indexes) (sym made.own) ∙ sym looks.counters;
        };
        own =
            header_once now.here found.header ((held.1.stands).file).header
            (subst (λ (i : Image). opening i.main i.side ≡ Ok found.header) (sym (looks.world.stays.here held.0)) is.opened) (stands_opens held.1.stands)
            ∙ held.1.own;
        front = sym has ∙ ap (λ (r : Room). r.found) looks.space ∙ was ∙ made.front;
        held = held;
        tree = subst (λ last. KnowsTree those.0 last tree) (sym looks.counters) (trees those.0 before);
      }

  -- the tree is read from the files
  abbrev reads : {knows' : Header → List ℕ → Type 0} {bytes' : List ℕ} {header' : Header} {now : World} {tree : OpenedTree} (o : IsOpened knows' bytes' header' mid.here now tree) → Reads mid.here o.tree.tree
  reads o = record {
    nodes = o.nodes;
    laid = record {
      header = o.laid.header;
      opened = o.laid.opened;
      m = o.laid.m;
      lays = o.laid.lays;
      those = o.laid.those;
      counters = o.laid.counters ∙ sym o.tree.counters;
    };
    shows = o.tree.shows;
  }

  -- numbers are left or not, as the scan found
  numbers : {knows' : Header → List ℕ → Type 0} {bytes' : List ℕ} {header' : Header} {now : World} {tree : OpenedTree} (o : IsOpened knows' bytes' header' mid.here now tree)
      → spent_in mid.here o.nodes o.tree.tree.tree.last (reads o).laid ≡ has_spent
  numbers o = same_spent mid.here o.nodes those.0 o.tree.tree.tree.last found.header.indexes (reads o).laid laid ∙ sym spent_is

  -- numbers are left
  pub fresh : {knows' : Header → List ℕ → Type 0} {bytes' : List ℕ} {header' : Header} {now : World} {tree : OpenedTree} → IsOpened knows' bytes' header' mid.here now tree → has_spent ≡ false
      → (X : Searching) × ReadsFresh mid.here X
  fresh o left = (o.tree.tree, record { reads = reads o; left = numbers o ∙ left })

  -- or none
  pub spent_stops : {knows' : Header → List ℕ → Type 0} {bytes' : List ℕ} {header' : Header} {now : World} {tree : OpenedTree} → IsOpened knows' bytes' header' mid.here now tree → has_spent ≡ true → StopsOpening mid.here (Refused Ids)
  spent_stops o spent = (
    (o.tree.tree, (reads o, numbers o ∙ spent)),
    spent_excludes mid.here those.0 found.header.indexes laid (sym spent_is ∙ spent),
  )

  -- the tree was refused by a look
  pub refused_look : (stop : TreeStop) → ((N : Nodes) → Holds knows bytes header mid N → StopsLook N stop) → StopsLooking mid.here (of_tree stop)
  refused_look stop stops = tree_stops_look mid.here those.0 found.header.indexes laid stop (stops those.0 (made.holds is those.0 those.1))

  -- the tree was looked at
  pub looked : {knows' : Header → List ℕ → Type 0} {bytes' : List ℕ} {header' : Header} {room room' : Room} {now : World} (tree : OpenedTree)
      → Looks (Holds knows bytes header mid) (Holds knows' bytes' header' now) header.indexes header'.indexes room room' mid now → room.found ≡ bytes → room'.found ≡ bytes'
      → ((N : Nodes) → Holds knows bytes header mid N → LooksTree N header.indexes tree) → IsLooked knows' bytes' header' mid.here now tree
  looked tree looks was has trees =
      let before = made.holds is those.0 those.1 in
      let k = trees those.0 before in
      record {
        nodes = those.0;
        front = sym has ∙ ap (λ (r : Room). r.found) looks.space ∙ was ∙ made.front;
        held = looks.stays those.0 before;
        tree = record { tree = k.tree; shows = k.shows; counters = k.counters ∙ sym looks.counters; knows = k.knows; messages = k.messages; searches = k.searches };
        reads = record {
          nodes = those.0;
          laid = record {
            header = found.header;
            opened = is.opened;
            m = is.nodes;
            lays = is.lays;
            those = those.1;
            counters = ap (λ (h : Header). h.indexes) (sym made.own) ∙ sym k.counters;
          };
          shows = k.shows;
        };
      }

-- what is held of a store is held where its gate is closed
still_held : {knows : Header → List ℕ → Type 0} {bytes : List ℕ} {header : Header} {N : Nodes} (mid now : World) → Holds knows bytes header mid N → SameStore mid.here now.here → now.tells → Holds knows bytes header now N
still_held {knows} {bytes} {header} {N} mid now holds same told =
    let held = holds.1 in
    let stands : Stands bytes now.here N header.indexes = stands_over held.stands same in (
      told,
      record {
        stands = stands;
        own =
            same_header (stands.file).header header (reading (take 564 (effective now.here.main now.here.side))) (stands.file).read
            (ap (λ (f : List ℕ). reading (take 564 f)) same.store ∙ ((held.stands).file).read ∙ ap Ok held.own);
        known = subst (knows header) (sym same.store) held.known;
      },
    )

pub still_opened : {knows : Header → List ℕ → Type 0} {bytes : List ℕ} {header : Header} {old : Image} {mid now : World} {tree : OpenedTree} → IsOpened knows bytes header old mid tree → SameStore mid.here now.here → now.tells → IsOpened knows bytes header old now tree
still_opened {mid = mid} {now = now} o same told = record { nodes = o.nodes; laid = o.laid; own = o.own; front = o.front; held = still_held mid now o.held same told; tree = o.tree }

-- ---- a check

-- what a scan found is what is said of a file that was checked
pub checked : {image : Image} {found : FoundFile} → IsFound image found → IsChecked image (record { header = found.header; next_block = found.next_block; next_page = found.next_page })
checked is = record { opened = is.opened; m = is.nodes; lays = is.lays; blocks = is.next_block; pages = is.next_page }

-- numbers are left where neither is used up
pub numbers_left : (block page : ℕ) → (nat_le (2 ^ 61) block || nat_le (2 ^ 61) page) ≡ false → (block < 2 ^ 61) × (page < 2 ^ 61)
numbers_left block page left =
    let parts = or_false (nat_le (2 ^ 61) block) (nat_le (2 ^ 61) page) left in
    (leb-false (2 ^ 61) block parts.0, leb-false (2 ^ 61) page parts.1)
  where
    or_false : (a b : Bool) → (a || b) ≡ false → (a ≡ false) × (b ≡ false)
    or_false true b e = cc
    or_false false b e = (refl, e)

-- ---- a file that is opened for mending

-- what was looked at of a store is so where its gate is closed
pub still_looked : {knows : Header → List ℕ → Type 0} {bytes : List ℕ} {header : Header} {old : Image} {mid now : World} {tree : OpenedTree} → IsLooked knows bytes header old mid tree → SameStore mid.here now.here → now.tells → IsLooked knows bytes header old now tree
still_looked {mid = mid} {now = now} o same told = record { nodes = o.nodes; front = o.front; held = still_held mid now o.held same told; tree = o.tree; reads = o.reads }
