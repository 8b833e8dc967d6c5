-- What an opening answers.
use Rattle.std.specs.Prelude.{◌≡◌, ◌<◌, ◌^◌, ◌++◌, ℕ, true, false, Bool, List, take, Ok}
use Rattle.pst_outside.specs.World.{Image, World}
use Rattle.pst_header.specs.declared.header.Header.{Header}
use Rattle.file_blocks.specs.Blocks.{file_of}
use Rattle.file_layout.specs.Nodes.{Lays, NodeMap, blocks_in}
use Rattle.file_layout.specs.Numbers.{is_spent, next_block, next_page}
use Rattle.file_layout.specs.Opening.{opening}
use Rattle.node_port.specs.Nodes.{Nodes}
use Rattle.lays_kept.specs.Stands.{AreThose}
use Rattle.pst_commit.specs.Keeping.{Holds}
use Rattle.file_scan.specs.Found.{IsFound}
use Rattle.file_scan.specs.Scan.{IsRefused}
use Rattle.file_scan.specs.declared.scan.FoundFile.{FoundFile}
use Rattle.mail_searches.specs.Searching.{Searching}
use Rattle.store_open.specs.Opening.{IsTreeRefused, KnowsTree, LooksTree, ShowsFresh, ShowsSearches}
pub use Rattle.store_open.specs.declared.open.OpenedTree.{OpenedTree}
use Rattle.file_open.specs.declared.open.CheckedFile.{CheckedFile}
use Rattle.file_open.specs.declared.stops.FileRefusal.{FileRefusal}
use Rattle.file_open.specs.declared.stops.FileRefusal.TheVariants as refusals
use Rattle.file_open.specs.declared.stops.FileStop.{FileStop}
use Rattle.file_open.specs.declared.stops.FileStop.TheVariants as stops

-- ---- what the two files are

-- the files open with a header under which they lay these nodes, with these counters
pub record LaysNodes (image : Image) (N : Nodes) (last : List ℕ) : Type 0 where
  pub header : Header
  pub opened : opening image.main image.side ≡ Ok header
  pub m : NodeMap
  pub lays : Lays header (file_of image) m
  pub those : AreThose m N
  pub counters : header.indexes ≡ last

-- a number for blocks or pages is used up in files that lay nodes
abbrev pub spent_in : (image : Image) (N : Nodes) (last : List ℕ) → LaysNodes image N last → Bool
spent_in image N last laid = is_spent laid.header (laid.lays).blocks (laid.lays).nodes

-- The two files are read as the tree with its searches, each running one of which lists what filtering lists.
pub record Reads (image : Image) (X : Searching) : Type 0 where
  pub nodes : Nodes
  pub laid : LaysNodes image nodes X.tree.last
  pub shows : ShowsFresh nodes X

-- the same, and numbers are left
pub record ReadsFresh (image : Image) (X : Searching) : Type 0 where
  pub reads : Reads image X
  pub left : spent_in image reads.nodes X.tree.last reads.laid ≡ false

-- The files open with this header and lay nodes, and these are their next numbers.
pub record IsChecked (image : Image) (file : CheckedFile) : Type 0 where
  pub opened : opening image.main image.side ≡ Ok file.header
  pub m : NodeMap
  pub lays : Lays file.header (file_of image) m
  pub blocks : file.next_block ≡ next_block file.header (blocks_in lays.blocks)
  pub pages : file.next_page ≡ next_page file.header (lays.blocks.pages ++ lays.nodes.pages)

-- numbers are left
abbrev pub HasLeft : CheckedFile → Type 0
HasLeft file = (file.next_block < 2 ^ 61) × (file.next_page < 2 ^ 61)

-- ---- why they are no such tree

-- what a refusal says of the two files
abbrev pub IsFileRefused : Image → FileRefusal → Type 0
IsFileRefused image (refusals.Scan refusal) = IsRefused image refusal
IsFileRefused image (refusals.Tree refusal) = (N : Nodes) × (last : List ℕ) × LaysNodes image N last × IsTreeRefused N refusal
IsFileRefused image refusals.Ids = (X : Searching) × ((r : Reads image X) × (spent_in image r.nodes X.tree.last r.laid ≡ true))

-- what a stop of an opening says of files whose bytes are told: a refusal excludes every tree
abbrev pub StopsOpening : Image → FileStop → Type 0
StopsOpening image (stops.Refused refusal) = IsFileRefused image refusal × ((X : Searching) → ReadsFresh image X → ⊥)
StopsOpening image stops.Fault = Unit {0}
StopsOpening image (stops.Changed ib stored computed) = ⊥
StopsOpening image stops.Memory = Unit {0}

-- the disk failed, or there was no memory
abbrev pub IsCalm : FileStop → Type 0
IsCalm (stops.Refused refusal) = ⊥
IsCalm stops.Fault = Unit {0}
IsCalm (stops.Changed ib stored computed) = ⊥
IsCalm stops.Memory = Unit {0}

-- ---- what a keeper holds

-- The keeper of a file that was scanned: whatever nodes the file lays it holds, under the header that was found, whose bytes it has.
pub record IsKept (knows : Header → List ℕ → Type 0) (bytes : List ℕ) (header : Header) (world : World) (found : FoundFile) : Type 0 where
  pub own : header ≡ found.header
  pub front : bytes ≡ take 564 (file_of world.here)
  pub holds : (is : IsFound world.here found) (N : Nodes) → AreThose is.nodes N → Holds knows bytes header world N

-- The keeper of an opened file holds the nodes that the files laid at the start, with the header that they opened with and its bytes; the nodes show a tree with searches, of which this is known.
pub record IsOpened (knows : Header → List ℕ → Type 0) (bytes : List ℕ) (header : Header) (old : Image) (now : World) (opened : OpenedTree) : Type 0 where
  pub nodes : Nodes
  pub laid : LaysNodes old nodes header.indexes
  pub own : laid.header ≡ header
  pub front : bytes ≡ take 564 (file_of old)
  pub held : Holds knows bytes header now nodes
  pub tree : KnowsTree nodes header.indexes opened

-- ---- where the files are only read

-- The two files are read as the tree with its searches, whatever these list, and whether numbers are left or not.
pub record ReadsTree (image : Image) (X : Searching) : Type 0 where
  pub nodes : Nodes
  pub laid : LaysNodes image nodes X.tree.last
  pub shows : ShowsSearches nodes X

-- what a stop of a look says of files whose bytes are told: a refusal excludes every tree
abbrev pub StopsLooking : Image → FileStop → Type 0
StopsLooking image (stops.Refused refusal) = IsFileRefused image refusal × ((X : Searching) → ReadsTree image X → ⊥)
StopsLooking image stops.Fault = Unit {0}
StopsLooking image (stops.Changed ib stored computed) = ⊥
StopsLooking image stops.Memory = Unit {0}

-- The keeper of a file that was looked at holds nodes that the files lay, with the bytes of the header that counts; they show a tree with searches that the files are read as, of which this is known.
pub record IsLooked (knows : Header → List ℕ → Type 0) (bytes : List ℕ) (header : Header) (old : Image) (now : World) (opened : OpenedTree) : Type 0 where
  pub nodes : Nodes
  pub front : bytes ≡ take 564 (file_of old)
  pub held : Holds knows bytes header now nodes
  pub tree : LooksTree nodes header.indexes opened
  pub reads : ReadsTree old tree.tree
