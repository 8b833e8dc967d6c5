-- Where all of a copy without holes stands.
use Rattle.std.specs.Prelude.{◌≡◌, ◌<◌, ◌++◌, ℕ, max, List, length, map}
use Rattle.pst_outside.specs.World.{Image}
use Rattle.pst_base.specs.declared.ids.Bref.{Bref}
use Rattle.pst_base.specs.declared.places.Place.{Place}
use Rattle.btree_pages.specs.declared.entry.BlockEntry.{BlockEntry}
use Rattle.btree_pages.specs.declared.entry.NodeEntry.{NodeEntry}
use Rattle.copy_layout.specs.Order.{InOrder, IsEnd}
use Rattle.copy_pieces.specs.Moved.{AreMoved, reached}
use Rattle.copy_trees.specs.Levels.{IsPlanned}
use Rattle.data_tree.proofs.PieceLaws.{joined}
use Rattle.file_blocks.specs.Blocks.{found_in}
use Rattle.file_layout.specs.Nodes.{LARGEST, blocks_in, nodes_in, place_of}
use Rattle.file_layout.specs.Trees.{file_of, page_place}
use Rattle.node_needs.specs.Needs.{needs}
use Rattle.node_reach.specs.Reach.{uses_of}
use Rattle.compactor.specs.Source.{IsSource}
use Rattle.compactor.specs.declared.source.Source.{Source}

-- the pages of a tree: their levels from the leaves on, the root, where they end and the number behind theirs
pub record Tree : Type 0 where
  pub levels : List (List Bref)
  pub root : Bref
  pub end : ℕ
  pub next : ℕ

-- the blocks with their places, the pages of both trees, and where the copy ends
pub record Layout : Type 0 where
  pub blocks : List BlockEntry
  pub nodes : Tree
  pub tree : Tree
  pub eof : ℕ

-- where the pages of a tree stand
abbrev pub tree_places : Tree → List Place
tree_places t = map page_place (joined t.levels)

-- where all stands
abbrev pub layout_places : Layout → List Place
layout_places l = map place_of l.blocks ++ (tree_places l.nodes ++ tree_places l.tree)

-- so many entries, of which so many stand on a leaf, make these pages behind a place, with the numbers from one on
abbrev pub HasPages : ℕ → ℕ → ℕ → ℕ → Tree → Type 0
HasPages most n from first t = IsPlanned most n from first t.levels t.root t.end t.next

-- The blocks that are reached come first, in the order of their ids; behind them the pages of the node tree, and then those of the block tree. The end is the least of regions that isn't below them and below what the nodes need.
pub record IsLayout (uses : ℕ → ℕ) (blocks : List BlockEntry) (nodes : List NodeEntry) (need first : ℕ) (l : Layout) : Type 0 where
  pub moved : AreMoved uses (reached uses blocks) l.blocks
  pub blocks_end : ℕ
  pub blocks_stand : InOrder 64 0x4400 (map place_of l.blocks) blocks_end
  pub node_pages : HasPages 15 (length nodes) blocks_end first l.nodes
  pub block_pages : HasPages 20 (length l.blocks) l.nodes.end l.nodes.next l.tree
  pub ends : IsEnd (max l.tree.end need) l.eof

-- that of the copy of a file
pub record IsLayoutOf (image : Image) (source : Source) (is : IsSource image source) (l : Layout) : Type 0 where
  pub layout : IsLayout (λ key. uses_of (found_in (file_of image) (blocks_in (is.lays).blocks)) key (nodes_in (is.lays).nodes)) (blocks_in (is.lays).blocks) (nodes_in (is.lays).nodes) (needs (is.m).nodes) source.next_page l

-- the copy would end there, past the most regions that a file may have
pub record IsTooLarge (image : Image) (source : Source) (eof : ℕ) : Type 0 where
  pub source_is : IsSource image source
  pub l : Layout
  pub layout : IsLayoutOf image source source_is l
  pub eof_is : eof ≡ l.eof
  pub past : LARGEST < eof
