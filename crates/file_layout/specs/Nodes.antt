-- What a file's nodes are: the node map, and how a file lays it.
use Rattle.std.specs.Prelude.{◌≡◌, ◌≤◌, ℕ, max, ◌+◌, ◌-◌, ◌*◌, ◌/◌, List, [], ◌∷◌, ◌++◌, map, length, Option, Result, Ok}
use Rattle.pst_base.specs.declared.places.Place.{Place}
use Rattle.pst_base.specs.Flat.{Flat}
use Rattle.pst_base.specs.Ids.{key_of}
use Rattle.pst_header.specs.declared.header.Header.{Header}
use Rattle.alloc_map.specs.Standing.{standing, IsMeeting}
use Rattle.file_blocks.specs.block_frame.Size.{disk_size_of}
use Rattle.btree_pages.specs.declared.entry.BlockEntry.{BlockEntry}
use Rattle.btree_pages.specs.declared.entry.NodeEntry.{NodeEntry}
use Rattle.btree_pages.specs.Entries.{block_of, node_of, node_key}
use Rattle.file_blocks.specs.data_tree.declared.source.TreeStop.{TreeStop}
use Rattle.file_blocks.specs.data_tree.Tree.{and_then, blocks_of}
use Rattle.subnode_tree.specs.Subnodes.{subs_of}
use Rattle.file_blocks.specs.Blocks.{AllStand, found_in}
use Rattle.file_layout.specs.Trees.{FileTree, Found, IsWhole, page_place}

-- ---- the node map

-- a node: its id, its parent's, its data blocks, and all subnodes below it
pub record Node : Type 0 where
  pub nid : ℕ
  pub parent : ℕ
  pub blocks : List (List ℕ)
  pub subs : List Flat

-- all nodes, ascending by id, and the last index given of each kind
pub record NodeMap : Type 0 where
  pub counters : List ℕ
  pub nodes : List Node

-- ---- how a file lays it

-- the block tree and the node tree of a file that ends at eof
abbrev pub block_tree : List ℕ → ℕ → FileTree
block_tree file eof = record { file = file; eof = eof; kind = 0x80; leaf = 24; rule = key_of }

abbrev pub node_tree : List ℕ → ℕ → FileTree
node_tree file eof = record { file = file; eof = eof; kind = 0x81; leaf = 32; rule = node_key }

-- the entries of the block tree, and those of the node tree
abbrev pub blocks_in : Found → List BlockEntry
blocks_in found = map block_of found.entries

abbrev pub nodes_in : Found → List NodeEntry
nodes_in found = map node_of found.entries

-- a node with its blocks and its subnodes, as an entry of the node tree names them among the blocks that find gives
unfoldable pub node_at : (ℕ → Option (List ℕ)) → ℕ → NodeEntry → Result Node TreeStop
node_at find eof e =
    and_then (blocks_of find eof e.content) (λ blocks. and_then (subs_of find eof e.subnodes) (λ subs. Ok (record { nid = (e.nid).bits; parent = (e.parent).bits; blocks = blocks; subs = subs })))

-- the nodes are those of the entries, one by one
abbrev pub AreNodes : (ℕ → Option (List ℕ)) → ℕ → List NodeEntry → List Node → Type 0
AreNodes find eof [] nodes = nodes ≡ []
AreNodes find eof (e ∷ es) nodes = (n : Node) × (rest : List Node) × (nodes ≡ n ∷ rest) × (node_at find eof e ≡ Ok n) × AreNodes find eof es rest

-- where a block stands
abbrev pub place_of : BlockEntry → Place
place_of e = record { ib = e.at.ib; len = disk_size_of e.cb }

-- the places of all pages and blocks
abbrev pub places_of : Found → Found → List Place
places_of blocks nodes = map page_place (blocks.pages ++ nodes.pages) ++ map place_of (blocks_in blocks)

-- the most bytes that a file may have: those before the first region, and 8192 regions
abbrev pub LARGEST : ℕ
LARGEST = 0x4400 + 253952 * 8192

-- how many regions a file of eof bytes has, the last of which may be cut short; at least one
abbrev pub regions_to : ℕ → ℕ
regions_to eof = max 1 ((eof - 0x4400 + 253951) / 253952)

-- The file with this header lays the node map: both trees are whole, the block tree names whole blocks, the node tree's entries
-- lead to the nodes, and no two of the pages, blocks and AMap pages meet.
pub record Lays (header : Header) (file : List ℕ) (m : NodeMap) : Type 0 where
  pub long_enough : header.eof ≤ length file
  pub small_enough : header.eof ≤ LARGEST
  pub blocks : Found
  pub block_pages : IsWhole (block_tree file header.eof) header.bbt blocks
  pub stand : AllStand file header.eof (blocks_in blocks)
  pub nodes : Found
  pub node_pages : IsWhole (node_tree file header.eof) header.nbt nodes
  pub are : AreNodes (found_in file (blocks_in blocks)) header.eof (nodes_in nodes) m.nodes
  pub apart : (slot : ℕ) → IsMeeting (standing (places_of blocks nodes) (regions_to header.eof)) slot → ⊥
  pub counters : m.counters ≡ header.indexes
