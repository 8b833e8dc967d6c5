-- What a planner gives for a commit.
use Rattle.std.specs.Prelude.{◌≡◌, ◌≤◌, ℕ, List, ◌++◌, length, map, Option, Ok}
use Rattle.pst_base.specs.declared.places.Place.{Place}
use Rattle.pst_base.specs.declared.ids.Nid.{Nid}
use Rattle.pst_header.specs.declared.header.Header.{Header}
use Rattle.pst_header.specs.Format.{reading}
use Rattle.alloc_map.specs.Standing.{standing}
use Rattle.btree_pages.specs.declared.entry.BlockEntry.{BlockEntry}
use Rattle.btree_pages.specs.declared.entry.NodeEntry.{NodeEntry}
use Rattle.btree_pages.specs.Entries.{block_of, node_of}
use Rattle.file_blocks.specs.Blocks.{Stands}
use Rattle.file_layout.specs.Nodes.{NodeMap, Lays, block_tree, node_tree, blocks_in, nodes_in, places_of, regions_to, LARGEST}
use Rattle.lays_kept.specs.declared.Piece.{Piece}
use Rattle.lays_kept.specs.Kept.{Each as EachPlace, IsClear, HoldsEach, Scattered}
use Rattle.alloc_map.specs.Covered.{Once}
use Rattle.alloc_map.specs.Tally.{tally as slot_tally}
use Rattle.lays_kept.proofs.Beside.{IsWhole}
use Rattle.node_port.specs.declared.node.NodeRec.{NodeRec}
use Rattle.tree_edit.specs.Plans.{resolve, AreShown}
use Rattle.file_pages.specs.InFile.{shapes_in}
use Rattle.node_layout.specs.Lookups.{EachPut}
use Rattle.node_layout.specs.Joined.{TreePlan, found_after, AreChanged}
use Rattle.node_layout.specs.Pieces.{piece_place}

-- The new header names the plan's roots, and vouches for no maps.
pub record IsNext (header new : Header) (sealed : List ℕ) (blocks : TreePlan BlockEntry) (nodes : TreePlan NodeEntry) : Type 0 where
  pub size : length sealed ≡ 564
  pub read : reading sealed ≡ Ok new
  pub unmapped : new.maps ≡ 0
  pub small_enough : new.eof ≤ LARGEST
  pub longer : header.eof ≤ new.eof
  pub bbt : new.bbt ≡ resolve blocks.name blocks.top
  pub nbt : new.nbt ≡ resolve nodes.name nodes.top

-- The pieces of a plan stand in places of their own: those of its pages and blocks.
pub record HasRoom {header : Header} {file : List ℕ} {m : NodeMap} (is : Lays header file m) (new : Header) (growth planned : List Piece) (places : List Place) : Type 0 where
  pub once : Once (map piece_place planned ++ standing (places_of is.blocks is.nodes) (regions_to new.eof))
  pub same : (slot : ℕ) → slot_tally slot places ≤ slot_tally slot (map piece_place planned)
  pub wholes : EachPlace IsWhole (map piece_place planned)
  pub front : IsClear growth 0 564
  pub beside : EachPlace (λ p. IsClear growth p.ib p.len) (standing (places_of is.blocks is.nodes) (regions_to header.eof))
  pub grows : (mid : List ℕ) → Scattered (growth ++ planned) file mid → HoldsEach mid (growth ++ planned) → new.eof ≤ length mid

-- Wherever the plan's pieces stand beside the old pages and blocks, its pages show what was planned, its blocks are whole, and the nodes that it puts are read.
pub record Shows {header : Header} {file : List ℕ} {m : NodeMap} (is : Lays header file m) (new : Header) (blocks : TreePlan BlockEntry) (nodes : TreePlan NodeEntry) (cs : List (Nid × Option NodeRec)) (bytes : List ℕ) : Type 0 where
  pub block_pages : AreShown (shapes_in block_of (block_tree bytes new.eof)) blocks.name 0 blocks.pages
  pub node_pages : AreShown (shapes_in node_of (node_tree bytes new.eof)) nodes.name 0 nodes.pages
  pub stand : EachPut (Stands bytes new.eof) blocks.edits
  pub changes : AreChanged (found_after bytes (blocks_in is.blocks) blocks.edits) new.eof (nodes_in is.nodes) nodes.edits cs
