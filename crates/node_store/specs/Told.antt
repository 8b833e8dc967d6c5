-- What a world tells of a file's blocks and nodes, and why a reading of them stops.
use Rattle.std.specs.Prelude.{◌≡◌, ℕ, ◌+◌, List, Option, None, Some, Result, Ok, Err}
use Rattle.pst_base.specs.declared.ids.Nid.{Nid}
use Rattle.pst_base.specs.declared.stops.MemOr.{MemOr}
use Rattle.pst_base.specs.declared.stops.MemOr.TheVariants as mem
use Rattle.pst_base.specs.declared.stops.SourceStop.{SourceStop}
use Rattle.pst_base.specs.declared.stops.SourceStop.TheVariants as source
use Rattle.pst_base.specs.Ids.{key_of}
use Rattle.pst_outside.specs.World.{World}
use Rattle.pst_outside.specs.Calls.{Rose, Untouched}
use Rattle.pst_header.specs.declared.header.Header.{Header}
use Rattle.btree_pages.specs.declared.entry.BlockEntry.{BlockEntry}
use Rattle.btree_pages.specs.declared.entry.NodeEntry.{NodeEntry}
use Rattle.btree_pages.specs.Entries.{block_of}
use Rattle.data_tree.specs.declared.source.TreeStop.{TreeStop}
use Rattle.data_tree.specs.declared.source.TreeStop.TheVariants as tree
use Rattle.file_blocks.specs.Blocks.{AllStand, entry_key, file_of, found_in}
use Rattle.file_layout.specs.Nodes.{Lays, Node, NodeMap, node_at}
use Rattle.page_cache.specs.declared.cache.Cached.{Cached}
use Rattle.file_pages.specs.declared.search.FileTree.{FileTree}
use Rattle.file_pages.specs.Told.{Caches, HasTree}
use Rattle.lays_kept.specs.Stands.{rec_of}
use Rattle.node_port.specs.declared.node.NodeRec.{NodeRec}
use Rattle.node_port.specs.declared.keeper.KeepStop.{KeepStop}
use Rattle.node_port.specs.declared.keeper.KeepStop.TheVariants as keep
use Rattle.node_port.specs.Nodes.{content_of}
use Rattle.node_store.specs.declared.node.Reach.{Reach}
use Rattle.node_store.specs.declared.node.Reach.TheVariants.{Whole as Wholly, Data}
use Rattle.node_store.specs.declared.node.PageCaches.{PageCaches}

-- ---- blocks

-- The world tells a file whose block tree has a root with whole blocks, of which find gives the data, and the cache has no other pages than the file's.
pub record TellsBlocks (world : World) (t : FileTree) (cached : List (ℕ × Cached)) (find : ℕ → Option (List ℕ)) : Type 0 where
  pub caches : Caches world t.eof t.kind cached
  pub entries : List BlockEntry
  pub has_tree : HasTree key_of 24 block_of entry_key (file_of world.here) t.eof t.kind t.root entries
  pub stand : AllStand (file_of world.here) t.eof entries
  pub found : (key : ℕ) → find key ≡ found_in (file_of world.here) entries key

-- a call read blocks: it left the world as it was, and tells them still
pub record AsksBlocks (old new : World) (t u : FileTree) (cached now : List (ℕ × Cached)) : Type 0 where
  pub same : Untouched old new
  pub tree : u ≡ t
  pub told : (find : ℕ → Option (List ℕ)) → TellsBlocks old t cached find → TellsBlocks new u now find

-- a fault shows in the disk's count, what was found changed never comes where the blocks are told, and each other stop is the fault that the reading gives of them
abbrev pub StopsReading : {Y : Type 0} → MemOr TreeStop → World → World → FileTree → List (ℕ × Cached) → ((ℕ → Option (List ℕ)) → Result Y TreeStop) → Type 0
StopsReading mem.Memory old new t cached reading = Unit {0}
StopsReading (mem.Refused (tree.Source source.Failed)) old new t cached reading = Rose old.disk_faults new.disk_faults
StopsReading (mem.Refused (tree.Source (source.Changed ib stored computed))) old new t cached reading = (find : ℕ → Option (List ℕ)) → TellsBlocks old t cached find → ⊥
StopsReading (mem.Refused fault) old new t cached reading = (find : ℕ → Option (List ℕ)) → TellsBlocks old t cached find → reading find ≡ Err fault

-- ---- nodes

-- the node that an entry leads to, as a keeper gives it
pub record IsNodeOf (find : ℕ → Option (List ℕ)) (eof : ℕ) (e : NodeEntry) (rec : NodeRec) : Type 0 where
  pub node : Node
  pub reads : node_at find eof e ≡ Ok node
  pub is : rec ≡ rec_of node

-- an entry as far as its node is read
abbrev pub reached : Reach → NodeEntry → NodeEntry
reached Wholly e = e
reached Data e = record e { subnodes = record { bits = 0 } }

-- a node as far as it is read
abbrev pub part_of : Reach → Option NodeRec → Option NodeRec
part_of Wholly node = node
part_of Data node = content_of node

-- the caches have no other pages than the file's
pub record CachesBoth (world : World) (header : Header) (caches : PageCaches) : Type 0 where
  pub blocks : Caches world header.eof 0x80 caches.blocks
  pub nodes : Caches world header.eof 0x81 caches.nodes

-- The world tells a file that lays nodes under a header, and the caches have no other pages than the file's.
pub record TellsNodes (world : World) (header : Header) (caches : PageCaches) (m : NodeMap) : Type 0 where
  pub cached : CachesBoth world header caches
  pub lays : Lays header (file_of world.here) m

-- what a world tells of nodes it tells still, through other caches
abbrev pub KeepsTelling : World → World → Header → PageCaches → PageCaches → Type 0
KeepsTelling old new header caches now = (m : NodeMap) → TellsNodes old header caches m → TellsNodes new header now m

-- the keys above an id begin here
abbrev pub Begins : Option Nid → ℕ → Type 0
Begins None low = low ≡ 0
Begins (Some nid) low = low ≡ nid.bits + 1

-- ---- stops of a keeper

-- a stop of a search, as a keeper gives it
abbrev pub keep_stop : MemOr SourceStop → KeepStop
keep_stop mem.Memory = keep.Memory
keep_stop (mem.Refused source.Failed) = keep.Fault
keep_stop (mem.Refused (source.Changed ib stored computed)) = keep.Changed ib stored computed

-- what doesn't read as data or subnodes has changed
abbrev pub tree_stop : ℕ → MemOr TreeStop → KeepStop
tree_stop ib mem.Memory = keep.Memory
tree_stop ib (mem.Refused (tree.Source stop)) = keep_stop (mem.Refused stop)
tree_stop ib (mem.Refused fault) = keep.Changed ib 0 0

-- a fault shows in the disk's count, and what was found changed never comes where this is so
abbrev pub StopsKeeping : World → World → Type 0 → KeepStop → Type 0
StopsKeeping old new Whole keep.Fault = Rose old.disk_faults new.disk_faults
StopsKeeping old new Whole (keep.Changed ib stored computed) = Whole → ⊥
StopsKeeping old new Whole keep.Memory = Unit {0}
