-- What a scan finds in a file, for a keeper of it.
use Rattle.std.specs.Prelude.{◌≡◌, ◌*◌, ◌++◌, ℕ, List, length, Ok}
use Rattle.pst_outside.specs.World.{Image}
use Rattle.alloc_map.specs.Standing.{occupied, IsCovered}
use Rattle.pst_header.specs.declared.header.Header.{Header}
use Rattle.btree_pages.specs.declared.entry.BlockEntry.{BlockEntry}
use Rattle.file_layout.specs.Nodes.{NodeMap, blocks_in, nodes_in, places_of, Lays}
use Rattle.file_layout.specs.Numbers.{next_block, next_page}
use Rattle.file_layout.specs.Opening.{opening}
use Rattle.file_layout.specs.Trees.{file_of}
use Rattle.file_blocks.specs.Blocks.{found_in}
use Rattle.node_reach.specs.Reach.{uses_of}
use Rattle.ref_counts.specs.Tables.{refs_in}
use Rattle.file_scan.specs.declared.scan.FoundFile.{FoundFile}

-- the files open with this header, the store's file lays a node map, and this is so of its blocks, of the pages of its trees and of the references of its nodes
pub record IsFound (image : Image) (found : FoundFile) : Type 0 where
  pub opened : opening image.main image.side ≡ Ok found.header
  pub nodes : NodeMap
  pub lays : Lays found.header (file_of image) nodes
  pub size : length found.slots ≡ 3968 * 8192
  pub used : IsCovered (occupied (places_of lays.blocks lays.nodes) 8192) found.slots
  pub pages : found.pages ≡ length (lays.blocks.pages ++ lays.nodes.pages)
  pub next_block : found.next_block ≡ next_block found.header (blocks_in lays.blocks)
  pub next_page : found.next_page ≡ next_page found.header (lays.blocks.pages ++ lays.nodes.pages)
  pub refs : (key : ℕ) → refs_in found.refs key ≡ uses_of (found_in (file_of image) (blocks_in lays.blocks)) key (nodes_in lays.nodes)

-- the file with this header lays a node map, and its block tree has these entries
pub record LaysBlocks (header : Header) (file : List ℕ) (blocks : List BlockEntry) : Type 0 where
  pub nodes : NodeMap
  pub lays : Lays header file nodes
  pub blocks_are : blocks ≡ blocks_in lays.blocks
