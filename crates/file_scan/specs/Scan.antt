-- What a scan of a file answers: the lines of the nodes that the file lays, or why it lays none.
use Rattle.std.specs.Prelude.{◌≡◌, ◌⊎◌, ◌≤◌, ◌<◌, ℕ, Bool, true, false, List, [], ◌∷◌, length, Option, Some, None, Ok, Err}
use Rattle.pst_base.specs.declared.ids.Bid.{Bid}
use Rattle.pst_base.specs.declared.ids.Bref.{Bref}
use Rattle.pst_base.specs.Ids.{key_of}
use Rattle.pst_outside.specs.World.{Image}
use Rattle.pst_header.specs.declared.header.Header.{Header}
use Rattle.alloc_map.specs.Standing.{standing, IsOverlap}
use Rattle.btree_pages.specs.declared.entry.BlockEntry.{BlockEntry}
use Rattle.btree_pages.specs.declared.entry.NodeEntry.{NodeEntry}
use Rattle.btree_pages.specs.Entries.{block_of}
use Rattle.data_tree.specs.declared.source.TreeStop.{TreeStop}
use Rattle.data_tree.specs.declared.source.TreeStop.TheVariants as tree_stops
use Rattle.file_blocks.specs.declared.check.BlockRefusal.{BlockRefusal}
use Rattle.file_blocks.specs.declared.check.BlockRefusal.TheVariants.{Form}
use Rattle.file_blocks.specs.Blocks.{data_at, Stands, AllStand, entry_with, found_in}
use Rattle.file_scan.specs.declared.nodes.NodeLine.{NodeLine}
use Rattle.file_layout.specs.declared.stops.NodeFault.{NodeFault}
use Rattle.file_layout.specs.declared.stops.NodeFault.TheVariants as faults
use Rattle.file_layout.specs.declared.stops.OpenRefusal.{OpenRefusal}
use Rattle.file_layout.specs.declared.stops.OpenRefusal.TheVariants as refusals
use Rattle.file_layout.specs.declared.stops.OpenStop.{OpenStop}
use Rattle.file_layout.specs.declared.stops.OpenStop.TheVariants.{Refused, Fault, Changed, Memory}
use Rattle.file_layout.specs.Nodes.{Node, NodeMap, block_tree, node_tree, blocks_in, nodes_in, node_at, places_of, LARGEST, regions_to, Lays}
use Rattle.file_scan.specs.Lines.{lines_of}
use Rattle.file_layout.specs.Opening.{opening}
use Rattle.file_layout.specs.Trees.{file_of, Found, root_seat, IsWhole}
use Rattle.file_layout.specs.Walk.{IsBadPage, IsReached}

-- the files open with a header, and the store's file lays a node map of these lines
pub record Scans (image : Image) (lines : List NodeLine) : Type 0 where
  pub header : Header
  pub opened : opening image.main image.side ≡ Ok header
  pub nodes : NodeMap
  pub lays : Lays header (file_of image) nodes
  pub listed : lines ≡ lines_of nodes

-- ---- the blocks

-- the first of these entries that names no whole block names one at ib, with this fault
abbrev pub IsFirstBad : List ℕ → ℕ → List BlockEntry → ℕ → BlockRefusal → Type 0
IsFirstBad file eof [] ib fault = ⊥
IsFirstBad file eof (e ∷ es) ib fault =
    ((e.at.ib ≡ ib) × (data_at file eof e ≡ Err fault)) ⊎ (Stands file eof e × IsFirstBad file eof es ib fault)

-- an entry that is reached from the root of the block tree names a block at ib, with this fault
pub record HasBadBlock (file : List ℕ) (eof : ℕ) (root : Bref) (ib : ℕ) (fault : BlockRefusal) : Type 0 where
  pub entry : List ℕ
  pub reached : IsReached (block_tree file eof) (root_seat root) entry
  pub place : (block_of entry).at.ib ≡ ib
  pub bad : data_at file eof (block_of entry) ≡ Err fault

-- ---- the nodes

-- the first of these entries that leads to no node is that of this id, and stops so
abbrev pub IsFirstStop : (ℕ → Option (List ℕ)) → ℕ → List NodeEntry → ℕ → TreeStop → Type 0
IsFirstStop find eof [] nid stop = ⊥
IsFirstStop find eof (e ∷ es) nid stop =
    (((e.nid).bits ≡ nid) × (node_at find eof e ≡ Err stop)) ⊎ ((n : Node) × (node_at find eof e ≡ Ok n) × IsFirstStop find eof es nid stop)

-- both trees and all blocks are whole, and the first node that isn't stops so
pub record HasBadNode (header : Header) (file : List ℕ) (nid : ℕ) (stop : TreeStop) : Type 0 where
  pub blocks : Found
  pub block_pages : IsWhole (block_tree file header.eof) header.bbt blocks
  pub stand : AllStand file header.eof (blocks_in blocks)
  pub nodes : Found
  pub node_pages : IsWhole (node_tree file header.eof) header.nbt nodes
  pub first : IsFirstStop (found_in file (blocks_in blocks)) header.eof (nodes_in nodes) nid stop

-- where an entry says that its block begins
abbrev pub ib_of : Option BlockEntry → ℕ
ib_of None = 0
ib_of (Some e) = e.at.ib

-- the same, where the stop is that a block has another form than it is read by: the block begins at ib
pub record HasBadForm (header : Header) (file : List ℕ) (ib : ℕ) : Type 0 where
  pub nid : ℕ
  pub bid : Bid
  pub bad : HasBadNode header file nid (tree_stops.Form bid)
  pub place : ib ≡ ib_of (entry_with (key_of bid.bits) (blocks_in bad.blocks))

abbrev pub stop_of : NodeFault → TreeStop
stop_of faults.Deep = tree_stops.Deep
stop_of faults.Many = tree_stops.Many
stop_of faults.Long = tree_stops.Long

-- ---- the places

-- both trees are whole, and of the places of their pages and blocks, or of the AMap pages, two meet: the least later start is ib
pub record HasMeeting (header : Header) (file : List ℕ) (ib : ℕ) : Type 0 where
  pub blocks : Found
  pub block_pages : IsWhole (block_tree file header.eof) header.bbt blocks
  pub nodes : Found
  pub node_pages : IsWhole (node_tree file header.eof) header.nbt nodes
  pub meet : IsOverlap (standing (places_of blocks nodes) (regions_to header.eof)) ib

-- ---- the answers

-- what a refusal names is at fault in the file with this header
abbrev pub IsFault : Header → List ℕ → OpenRefusal → Type 0
IsFault header file (refusals.Truncated len eof) = (len ≡ length file) × (eof ≡ header.eof) × (len < eof)
IsFault header file (refusals.Large eof) = (eof ≡ header.eof) × (eof ≤ length file) × (LARGEST < eof)
IsFault header file (refusals.Page ib fault) = IsBadPage (block_tree file header.eof) header.bbt ib fault ⊎ IsBadPage (node_tree file header.eof) header.nbt ib fault
IsFault header file (refusals.Block ib Form) = HasBadForm header file ib
IsFault header file (refusals.Block ib fault) = HasBadBlock file header.eof header.bbt ib fault
IsFault header file (refusals.Missing bid) = (nid : ℕ) × HasBadNode header file nid (tree_stops.Missing bid)
IsFault header file (refusals.Overlap ib) = HasMeeting header file ib
IsFault header file (refusals.Node nid fault) = HasBadNode header file nid.bits (stop_of fault)
IsFault header file refusal = ⊥

-- the refusal is of the file's length
abbrev pub is_of_length : OpenRefusal → Bool
is_of_length (refusals.Truncated len eof) = true
is_of_length (refusals.Large eof) = true
is_of_length refusal = false

-- the files open with a header, what the refusal names is at fault, and the store's file lays no node map; of what it names but its length, the length isn't at fault
pub record IsFaulty (image : Image) (refusal : OpenRefusal) : Type 0 where
  pub header : Header
  pub opened : opening image.main image.side ≡ Ok header
  pub fault : IsFault header (file_of image) refusal
  pub long : is_of_length refusal ≡ false → (header.eof ≤ length (file_of image)) × (header.eof ≤ LARGEST)
  pub none : (nodes : NodeMap) → Lays header (file_of image) nodes → ⊥

-- what a refusal says of the files: no header counts, or one does and what is named is at fault
abbrev pub IsRefused : Image → OpenRefusal → Type 0
IsRefused image refusal = (opening image.main image.side ≡ Err refusal) ⊎ IsFaulty image refusal

-- what a stop says of files whose bytes are told: what has passed its check never changes there
abbrev pub StopsScan : OpenStop → Image → Type 0
StopsScan Memory image = Unit {0}
StopsScan Fault image = Unit {0}
StopsScan (Changed ib stored computed) image = ⊥
StopsScan (Refused refusal) image = IsRefused image refusal
