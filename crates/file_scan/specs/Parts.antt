-- What the parts of a scan answer.
use Rattle.std.specs.Prelude.{◌≡◌, ◌≤◌, ◌<◌, ℕ, Bool, List, [], ◌∷◌, ◌++◌, map, Option, Result, Ok, Err}
use Rattle.pst_base.specs.declared.ids.Bref.{Bref}
use Rattle.pst_base.specs.declared.ids.Nid.{Nid}
use Rattle.pst_base.specs.declared.places.Place.{Place}
use Rattle.pst_base.specs.declared.stops.MemOr.{MemOr}
use Rattle.pst_base.specs.declared.stops.MemOr.TheVariants as or_memory
use Rattle.pst_base.specs.declared.stops.SourceStop.TheVariants as sources
use Rattle.pst_base.specs.Ids.{key_of}
use Rattle.pst_outside.specs.World.{World}
use Rattle.pst_outside.specs.Calls.{Untouched}
use Rattle.alloc_map.specs.Standing.{standing, occupied, IsCovered, IsOverlap}
use Rattle.btree_pages.specs.declared.entry.BlockEntry.{BlockEntry}
use Rattle.btree_pages.specs.declared.entry.NodeEntry.{NodeEntry}
use Rattle.data_tree.specs.declared.source.TreeStop.{TreeStop}
use Rattle.data_tree.specs.declared.source.TreeStop.TheVariants as tree_stops
use Rattle.file_blocks.specs.declared.check.BlockRefusal.TheVariants.{Form}
use Rattle.file_blocks.specs.Blocks.{AllStand, entry_with}
use Rattle.file_blocks.specs.Stops.{Holds, IsPlaced}
use Rattle.file_scan.specs.declared.nodes.NodeLine.{NodeLine}
use Rattle.file_layout.specs.declared.stops.NodeFault.TheVariants as faults
use Rattle.file_layout.specs.declared.stops.OpenRefusal.TheVariants as refusals
use Rattle.file_layout.specs.declared.stops.OpenStop.{OpenStop}
use Rattle.file_layout.specs.declared.stops.OpenStop.TheVariants.{Refused, Fault, Changed, Memory}
use Rattle.pst_header.specs.declared.header.Header.{Header}
use Rattle.file_layout.specs.Nodes.{Node, NodeMap, node_at, AreNodes, block_tree, blocks_in, nodes_in, places_of, LARGEST, Lays}
use Rattle.file_scan.specs.Lines.{line_of, lines_of}
use Rattle.file_scan.specs.Scan.{IsFirstBad, IsFirstStop, ib_of, HasBadBlock, IsFault}
use Rattle.file_layout.specs.Trees.{Found, IsWhole}
use Rattle.file_layout.specs.Walk.{IsBadPage}

-- ---- the end

-- a stop for the file's length, where the header names this end
abbrev pub StopsEof : OpenStop → ℕ → ℕ → Type 0
StopsEof Fault len eof = Unit {0}
StopsEof (Refused (refusals.Truncated found end)) len eof = (found ≡ len) × (end ≡ eof) × (len < eof)
StopsEof (Refused (refusals.Large end)) len eof = (end ≡ eof) × (eof ≤ len) × (LARGEST < eof)
StopsEof stop len eof = ⊥

-- ---- the blocks

-- a stop at a block names the first that isn't whole
abbrev pub StopsAtBlock : OpenStop → List ℕ → ℕ → List BlockEntry → Type 0
StopsAtBlock Fault file eof entries = Unit {0}
StopsAtBlock (Refused (refusals.Block ib fault)) file eof entries = IsFirstBad file eof entries ib fault
StopsAtBlock stop file eof entries = ⊥

-- ---- a node

-- a stop of a reading over a world, but for the disk's: by what has changed, which never comes where the blocks are told, or by the fault that the reading gives of the blocks
abbrev pub StopsReading : {Y : Type 0} → MemOr TreeStop → World → ℕ → List BlockEntry → ((ℕ → Option (List ℕ)) → Result Y TreeStop) → Type 0
StopsReading or_memory.Memory old eof blocks reading = Unit {0}
StopsReading (or_memory.Refused (tree_stops.Source sources.Failed)) old eof blocks reading = Unit {0}
StopsReading (or_memory.Refused (tree_stops.Source (sources.Changed ib stored computed))) old eof blocks reading =
    (find : ℕ → Option (List ℕ)) → Holds old eof blocks find → ⊥
StopsReading (or_memory.Refused stop) old eof blocks reading = (find : ℕ → Option (List ℕ)) → Holds old eof blocks find → reading find ≡ Err stop

-- a call on a source of blocks changes nothing of the world, and what the source holds it holds on
pub record Asks (old new : World) (eof new_eof : ℕ) (blocks new_blocks : List BlockEntry) : Type 0 where
  pub same : Untouched old new
  pub eof_is : new_eof ≡ eof
  pub told : (find : ℕ → Option (List ℕ)) → Holds old eof blocks find → Holds new new_eof new_blocks find

-- what is told of a node is of the node that its entry leads to
pub record IsLineOf (find : ℕ → Option (List ℕ)) (eof : ℕ) (e : NodeEntry) (line : NodeLine) : Type 0 where
  pub node : Node
  pub is : node_at find eof e ≡ Ok node
  pub line_is : line ≡ line_of node

-- where the block begins whose form is at fault; 0 for any other stop
abbrev pub place_in : List BlockEntry → MemOr TreeStop → ℕ
place_in blocks (or_memory.Refused (tree_stops.Form bid)) = ib_of (entry_with (key_of bid.bits) blocks)
place_in blocks stop = 0

-- the stop of a scan at a node, where a block whose form is at fault begins at ib
abbrev pub stop_at : ℕ → Nid → MemOr TreeStop → OpenStop
stop_at ib nid or_memory.Memory = Memory
stop_at ib nid (or_memory.Refused (tree_stops.Missing bid)) = Refused (refusals.Missing bid)
stop_at ib nid (or_memory.Refused (tree_stops.Form bid)) = Refused (refusals.Block ib Form)
stop_at ib nid (or_memory.Refused tree_stops.Long) = Refused (refusals.Node nid faults.Long)
stop_at ib nid (or_memory.Refused tree_stops.Deep) = Refused (refusals.Node nid faults.Deep)
stop_at ib nid (or_memory.Refused tree_stops.Many) = Refused (refusals.Node nid faults.Many)
stop_at ib nid (or_memory.Refused (tree_stops.Source sources.Failed)) = Fault
stop_at ib nid (or_memory.Refused (tree_stops.Source (sources.Changed at stored computed))) = Changed at stored computed

-- ---- the nodes

-- a stop at a node is that of the first that isn't whole
pub record IsStopOf (stop : OpenStop) (find : ℕ → Option (List ℕ)) (eof : ℕ) (blocks : List BlockEntry) (nodes : List NodeEntry) : Type 0 where
  pub nid : Nid
  pub fault : TreeStop
  pub is : stop ≡ stop_at (place_in blocks (or_memory.Refused fault)) nid (or_memory.Refused fault)
  pub first : IsFirstStop find eof nodes nid.bits fault

-- a stop of the reading of nodes, but for the disk's
abbrev pub StopsAtNodes : OpenStop → World → ℕ → List BlockEntry → List NodeEntry → Type 0
StopsAtNodes Memory old eof blocks nodes = Unit {0}
StopsAtNodes Fault old eof blocks nodes = Unit {0}
StopsAtNodes (Changed ib stored computed) old eof blocks nodes = (find : ℕ → Option (List ℕ)) → Holds old eof blocks find → ⊥
StopsAtNodes (Refused refusal) old eof blocks nodes = (find : ℕ → Option (List ℕ)) → Holds old eof blocks find → IsStopOf (Refused refusal) find eof blocks nodes

-- a stop that is the disk's or for memory: any other never comes where the nodes are read
abbrev pub NeverStops : OpenStop → World → ℕ → List BlockEntry → List NodeEntry → Type 0
NeverStops Memory old eof blocks nodes = Unit {0}
NeverStops Fault old eof blocks nodes = Unit {0}
NeverStops stop old eof blocks nodes = (find : ℕ → Option (List ℕ)) (are : List Node) → Holds old eof blocks find → AreNodes find eof nodes are → ⊥

-- the lines are those of the nodes that the entries lead to
pub record AreLines (find : ℕ → Option (List ℕ)) (eof : ℕ) (entries : List NodeEntry) (lines : List NodeLine) : Type 0 where
  pub nodes : List Node
  pub are : AreNodes find eof entries nodes
  pub lines_are : lines ≡ map line_of nodes

-- ---- the places

-- a stop at places names the least later start of two that meet
abbrev pub StopsAtMeeting : OpenStop → List Place → ℕ → Type 0
StopsAtMeeting Memory places regions = Unit {0}
StopsAtMeeting (Refused (refusals.Overlap ib)) places regions = IsOverlap (standing places regions) ib
StopsAtMeeting stop places regions = ⊥

-- each entry's block may stand where the entry says
abbrev pub AllPlaced : ℕ → List BlockEntry → Type 0
AllPlaced eof [] = Unit {0}
AllPlaced eof (e ∷ es) = IsPlaced eof e × AllPlaced eof es

-- each entry's block has a length that a block may have
abbrev pub AllShort : List BlockEntry → Type 0
AllShort [] = Unit {0}
AllShort (e ∷ es) = (e.cb ≤ 8176) × AllShort es

-- ---- the trees

-- the block tree of a root is whole, its entries and its pages are these, and each entry names a whole block
pub record HasBlocks (file : List ℕ) (eof : ℕ) (root : Bref) (blocks : List BlockEntry) (pages : List Bref) : Type 0 where
  pub found : Found
  pub whole : IsWhole (block_tree file eof) root found
  pub blocks_are : blocks ≡ blocks_in found
  pub pages_are : pages ≡ found.pages
  pub stand : AllStand file eof blocks

-- a stop at the block tree: at a page, or at a block, each of them reached
abbrev pub StopsBlocks : OpenStop → List ℕ → ℕ → Bref → Type 0
StopsBlocks Memory file eof root = Unit {0}
StopsBlocks Fault file eof root = Unit {0}
StopsBlocks (Refused (refusals.Page ib fault)) file eof root = IsBadPage (block_tree file eof) root ib fault
StopsBlocks (Refused (refusals.Block ib fault)) file eof root = HasBadBlock file eof root ib fault
StopsBlocks stop file eof root = ⊥

-- ---- both trees

-- a stop at the trees of a header: a refusal names what is at fault, and the file lays no node map
abbrev pub StopsTrees : OpenStop → Header → List ℕ → Type 0
StopsTrees Memory header file = Unit {0}
StopsTrees Fault header file = Unit {0}
StopsTrees (Changed ib stored computed) header file = ⊥
StopsTrees (Refused refusal) header file = IsFault header file refusal × ((m : NodeMap) → Lays header file m → ⊥)

-- the file with this header lays a node map of these lines, its trees have these blocks, nodes and pages, and just their slots and those of the fixed pages of 8192 regions are used
pub record LaysThese (header : Header) (file : List ℕ) (blocks : List BlockEntry) (entries : List NodeEntry) (pages : List Bref) (lines : List NodeLine) (slots : List Bool) : Type 0 where
  pub nodes : NodeMap
  pub lays : Lays header file nodes
  pub lines_are : lines ≡ lines_of nodes
  pub blocks_are : blocks ≡ blocks_in lays.blocks
  pub entries_are : entries ≡ nodes_in lays.nodes
  pub pages_are : pages ≡ lays.blocks.pages ++ lays.nodes.pages
  pub used : IsCovered (occupied (places_of lays.blocks lays.nodes) 8192) slots
