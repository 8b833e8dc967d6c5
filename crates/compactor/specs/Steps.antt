-- What the steps of a copy's making have: what was found of the file, and what is planned of the copy.
use Rattle.std.specs.Prelude.{◌≡◌, ◌≤◌, ◌+◌, ◌*◌, ◌^◌, ℕ, Bool, not, count_by, take, List, All, length, map}
use Rattle.pst_outside.specs.World.{Image, World}
use Rattle.pst_header.specs.declared.header.Header.{Header}
use Rattle.alloc_map.specs.Ends.{region_end}
use Rattle.alloc_map.specs.Slots.{IsLaid, regions_of}
use Rattle.alloc_map.specs.Standing.{IsMeeting, standing}
use Rattle.btree_pages.specs.declared.entry.BlockEntry.{BlockEntry}
use Rattle.btree_pages.specs.declared.entry.NodeEntry.{NodeEntry}
use Rattle.file_blocks.specs.Blocks.{AllStand, entry_key, found_in}
use Rattle.file_layout.specs.Nodes.{blocks_in, nodes_in}
use Rattle.file_layout.specs.Trees.{file_of}
use Rattle.file_scan.specs.Parts.{AllShort}
use Rattle.node_layout.specs.Joined.{node_id}
use Rattle.node_needs.specs.Needs.{needs}
use Rattle.node_reach.specs.Reach.{uses_of}
use Rattle.ref_counts.specs.Tables.{refs_in}
use Rattle.tree_edit.specs.Shapes.{RiseIn}
use Rattle.lays_kept.specs.Stands.{last_map}
use Rattle.copy_pieces.specs.Headers.{Succeeds}
use Rattle.copy_pieces.specs.Moved.{reached}
use Rattle.copy_trees.specs.declared.planning.TreePages.{TreePages}
use Rattle.compactor.specs.Layout.{IsLayout, Layout, Tree, layout_places}
use Rattle.compactor.specs.Source.{IsSource}
use Rattle.compactor.specs.Written.{AddsAll, IsMade, IsWritten}
use Rattle.compactor.specs.declared.finding.Found.{Found}
use Rattle.compactor.specs.declared.planning.Plan.{Plan}
use Rattle.compactor.specs.declared.source.Source.{Source}

-- the keys of blocks and those of nodes don't both ascend
abbrev pub AreUnordered : List BlockEntry → List NodeEntry → Type 0
AreUnordered blocks nodes = RiseIn 0 (2 ^ 64) (map entry_key blocks) → RiseIn 0 (2 ^ 64) (map node_id nodes) → ⊥

-- how often the nodes of a source refer to a block
abbrev pub uses_in : {image : Image} {source : Source} → IsSource image source → ℕ → ℕ
uses_in {image} is key = uses_of (found_in (file_of image) (blocks_in (is.lays).blocks)) key (nodes_in (is.lays).nodes)

-- the entries of the source's trees, its references, and what its nodes need
pub record IsFound (image : Image) (source : Source) (found : Found) : Type 0 where
  pub source_is : IsSource image source
  pub blocks : found.entries.blocks.items ≡ blocks_in (source_is.lays).blocks
  pub nodes : found.entries.nodes.items ≡ nodes_in (source_is.lays).nodes
  pub refs : (key : ℕ) → refs_in found.refs key ≡ uses_in source_is key
  pub need : found.need ≡ needs (source_is.m).nodes

-- the pages of a tree
abbrev pub tree_of : TreePages → Tree
tree_of p = record { levels = p.levels.items; root = p.root; end = p.end; next = p.next_page }

-- the layout of a plan
abbrev pub layout_of : Plan → Layout
layout_of p = record { blocks = p.blocks.items; nodes = tree_of p.nodes; tree = tree_of p.tree; eof = p.eof }

-- the plan is that of these entries, and leaves numbers
pub record IsPlan (uses : ℕ → ℕ) (blocks : List BlockEntry) (nodes : List NodeEntry) (need first : ℕ) (plan : Plan) : Type 0 where
  pub chosen : plan.chosen.items ≡ reached uses blocks
  pub layout : IsLayout uses blocks nodes need first (layout_of plan)
  pub few : plan.tree.next_page ≤ 2 ^ 63

-- A plan can be written: its blocks stand in the file, which ends there, and its entries ascend by their keys.
pub record IsReady (world : World) (eof : ℕ) (nodes : List NodeEntry) (plan : Plan) : Type 0 where
  pub whole : world.tells → eof ≤ length world.here.main
  pub stand : world.tells → AllStand (file_of world.here) eof plan.chosen.items
  pub short : AllShort plan.chosen.items
  pub uses : ℕ → ℕ
  pub blocks : List BlockEntry
  pub need : ℕ
  pub first : ℕ
  pub planned : IsPlan uses blocks nodes need first plan
  pub block_keys : RiseIn 0 (2 ^ 64) (map entry_key plan.blocks.items)
  pub node_keys : RiseIn 0 (2 ^ 64) (map node_id nodes)

-- A plan's file has so many regions: each of its blocks and pages lies in them, and no two of these meet, or one and a map page.
pub record HasRegions (plan : Plan) (regions : ℕ) : Type 0 where
  pub some : 1 ≤ regions
  pub few : regions ≤ 8192
  pub ends : plan.eof ≡ region_end regions
  pub laid : All (IsLaid regions) (layout_places (layout_of plan))
  pub apart : (slot : ℕ) → IsMeeting (standing (layout_places (layout_of plan)) regions) slot → ⊥

-- a plan is written, with a header and maps that are made of it
pub record WritesCopy (file : List ℕ) (source : Source) (nodes : List NodeEntry) (plan : Plan) (copy : List ℕ) : Type 0 where
  pub header : Header
  pub used : List Bool
  pub regions : ℕ
  pub made : IsMade source.header header source.next_block (layout_of plan) used regions
  pub written : IsWritten file plan.chosen.items nodes (layout_of plan) used regions header copy

-- all of a plan but the header is written from one moment to another, with maps of these used slots, where the later one is told
abbrev pub PutsAll : World → List NodeEntry → Plan → List Bool → World → Type 0
PutsAll old nodes plan used new = new.tells → AddsAll (file_of old.here) plan.chosen.items nodes (layout_of plan) used (regions_of used) old.here.copy new.here.copy

-- the header follows the source's, names the plan's roots and end, and counts the bytes of the slots that are free
pub record IsHeaderOf (source : Source) (plan : Plan) (used : List Bool) (header : Header) : Type 0 where
  pub succeeds : Succeeds source.header header source.next_block (plan.tree.next_page + 1) plan.eof
  pub nbt : header.nbt ≡ plan.nodes.root
  pub bbt : header.bbt ≡ plan.tree.root
  pub free : header.amap_free ≡ 64 * count_by not (take (3968 * regions_of used) used)
  pub last : header.amap_last ≡ last_map plan.eof
