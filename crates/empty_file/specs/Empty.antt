-- What a file without nodes is made of, and what it is then.
use Rattle.std.specs.Prelude.{◌≡◌, ◌⊎◌, ◌≤◌, ℕ, List, [], ◌∷◌, ◌++◌, length, take, drop, replicate, Ok}
use Rattle.pst_base.specs.declared.ids.Bref.{Bref}
use Rattle.pst_base.specs.Ids.{key_of}
use Rattle.pst_outside.specs.World.{Image}
use Rattle.pst_header.specs.declared.header.Header.{Header}
use Rattle.pst_header.specs.Format.{IsWritable, reading}
use Rattle.page_frame.specs.Page.{IsPage}
use Rattle.btree_pages.specs.Entries.{node_key}
use Rattle.btree_pages.specs.Pages.{page_of}
use Rattle.file_layout.specs.Nodes.{NodeMap, Lays}
use Rattle.file_layout.specs.Opening.{opening}
use Rattle.file_layout.specs.Trees.{Found, file_of}
use Rattle.lays_kept.specs.declared.Piece.{Piece}

-- ---- the header

-- the root of the block tree
abbrev pub block_root : Bref
block_root = record { bid = record { bits = 2 }; ib = 0x4c00 }

-- the root of the node tree
abbrev pub node_root : Bref
node_root = record { bid = record { bits = 3 }; ib = 0x4e00 }

-- the header of a file without nodes, which names two roots, gives numbers behind theirs, and vouches for no maps
pub record IsFirst (header : Header) : Type 0 where
  pub writable : IsWritable header
  pub maps : header.maps ≡ 0
  pub eof : header.eof ≡ 271360
  pub next_block : header.next_block ≡ 4
  pub next_page : header.next_page ≡ 4
  pub unique : header.unique ≡ 0
  pub bbt : header.bbt ≡ block_root
  pub nbt : header.nbt ≡ node_root

-- ---- the parts

-- the page that older readers look for, in front of the first region
abbrev pub dense_at : Bref
dense_at = record { bid = record { bits = 1 }; ib = 0x4200 }

-- a map page, whose id is its place
abbrev pub map_at : ℕ → Bref
map_at ib = record { bid = record { bits = ib }; ib = ib }

-- a part is a page of a kind with this content, sealed for its place
pub record IsPagePart (kind : ℕ) (at : Bref) (body : List ℕ) (part : Piece) : Type 0 where
  pub place : part.at ≡ at.ib
  pub sealed : IsPage kind at body part.bytes

-- one page of a kind with this content more
pub record AddsPage (kind : ℕ) (at : Bref) (body : List ℕ) (old new : List Piece) : Type 0 where
  pub part : Piece
  pub is : IsPagePart kind at body part
  pub added : new ≡ old ++ part ∷ []

-- a part is the root of a tree without entries
pub record IsRootPart (kind : ℕ) (at : Bref) (rule : ℕ → ℕ) (size : ℕ) (part : Piece) : Type 0 where
  pub body : List ℕ
  pub page : IsPagePart kind at body part
  pub reads : page_of rule size body ≡ Ok (record { level = 0; entries = [] })

-- a part is the header
pub record IsHeaderPart (header : Header) (part : Piece) : Type 0 where
  pub place : part.at ≡ 0
  pub size : length part.bytes ≡ 564
  pub reads : reading part.bytes ≡ Ok header

-- the file's last byte
abbrev pub last_part : Piece
last_part = record { at = 271359; bytes = 0 ∷ [] }

-- the parts of a file without nodes, by their places
pub record AreParts (header : Header) (parts : List Piece) : Type 0 where
  pub head : Piece
  pub dense : Piece
  pub map : Piece
  pub page_map : Piece
  pub blocks : Piece
  pub nodes : Piece
  pub are : parts ≡ head ∷ dense ∷ map ∷ page_map ∷ blocks ∷ nodes ∷ last_part ∷ []
  pub is_head : IsHeaderPart header head
  pub is_dense : IsPagePart 0x86 dense_at (replicate 496 0) dense
  pub is_map : IsPagePart 0x84 (map_at 0x4400) (replicate 496 0xff) map
  pub is_page_map : IsPagePart 0x83 (map_at 0x4600) (replicate 496 0xff) page_map
  pub is_blocks : IsRootPart 0x80 block_root key_of 24 blocks
  pub is_nodes : IsRootPart 0x81 node_root node_key 32 nodes

-- ---- the file

-- a tree whose root is an empty leaf
abbrev pub alone : Bref → Found
alone root = record { entries = []; pages = root ∷ [] }

-- the two files open with the header, and lay no node
pub record LaysNothing (header : Header) (image : Image) : Type 0 where
  pub opened : opening image.main image.side ≡ Ok header
  pub nodes : NodeMap
  pub none : nodes.nodes ≡ []
  pub lays : Lays header (file_of image) nodes
  pub blocks : lays.blocks ≡ alone block_root
  pub roots : lays.nodes ≡ alone node_root

-- the page that older readers look for and the first region's map pages stand in the file
pub record HasFixedPages (file : List ℕ) : Type 0 where
  pub dense : IsPage 0x86 dense_at (replicate 496 0) (take 512 (drop 0x4200 file))
  pub map : IsPage 0x84 (map_at 0x4400) (replicate 496 0xff) (take 512 (drop 0x4400 file))
  pub page_map : IsPage 0x83 (map_at 0x4600) (replicate 496 0xff) (take 512 (drop 0x4600 file))

-- one of the store's two files has bytes
abbrev pub HasBytes : Image → Type 0
HasBytes image = (1 ≤ length image.main) ⊎ (1 ≤ length image.side)

-- neither has
pub record IsVacant (image : Image) : Type 0 where
  pub main : image.main ≡ []
  pub side : image.side ≡ []
