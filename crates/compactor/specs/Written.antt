-- What has been written into a copy.
use Rattle.std.specs.Prelude.{◌≡◌, ◌≤◌, ◌+◌, ◌-◌, ◌*◌, ℕ, Bool, not, count_by, List, [], ◌∷◌, length, replicate, take, Ok}
use Rattle.pst_base.specs.declared.ids.Bref.{Bref}
use Rattle.pst_base.specs.Ids.{key_of}
use Rattle.pst_header.specs.declared.header.Header.{Header}
use Rattle.pst_header.specs.Format.{reading}
use Rattle.page_frame.specs.Page.{IsPage}
use Rattle.alloc_map.specs.Ends.{region_end}
use Rattle.alloc_map.specs.Standing.{IsCovered, occupied}
use Rattle.btree_pages.specs.declared.entry.BlockEntry.{BlockEntry}
use Rattle.btree_pages.specs.declared.entry.NodeEntry.{NodeEntry}
use Rattle.btree_pages.specs.Entries.{block_of, node_key, node_of}
use Rattle.file_blocks.specs.Blocks.{entry_key}
use Rattle.file_layout.specs.Nodes.{LARGEST}
use Rattle.lays_kept.specs.Stands.{last_map}
use Rattle.node_layout.specs.Joined.{node_id}
use Rattle.copy_pieces.specs.Fixed.{AddsFixed}
use Rattle.copy_pieces.specs.Headers.{Succeeds}
use Rattle.copy_pieces.specs.Writes.{Adds, AddsBlocks}
use Rattle.copy_trees.specs.Writes.{AddsTree, Form}
use Rattle.compactor.specs.Layout.{Layout, layout_places}

-- how the pages of the two trees are written
abbrev pub block_form : Form BlockEntry
block_form = record { rule = key_of; size = 24; entry_of = block_of; key = entry_key; kind = 0x80 }

abbrev pub node_form : Form NodeEntry
node_form = record { rule = node_key; size = 32; entry_of = node_of; key = node_id; kind = 0x81 }

-- the copy has the blocks of a layout and the pages of its trees besides
pub record AddsParts (file : List ℕ) (olds : List BlockEntry) (nodes : List NodeEntry) (l : Layout) (old new : List ℕ) : Type 0 where
  pub filled : List ℕ
  pub blocks : AddsBlocks file olds l.blocks old filled
  pub named : List ℕ
  pub node_pages : AddsTree node_form 15 nodes l.nodes.levels filled named
  pub block_pages : AddsTree block_form 20 l.blocks l.tree.levels named new

-- the page that older readers look for, which names nothing
abbrev pub dense_at : ℕ → Bref
dense_at n = record { bid = record { bits = n }; ib = 0x4200 }

-- the copy has these bytes besides, from a place on
abbrev pub AddsBytes : ℕ → List ℕ → List ℕ → List ℕ → Type 0
AddsBytes at bytes old new = Adds old new (record { at = at; bytes = bytes } ∷ [])

-- the copy has that page with a number besides
pub record AddsDense (n : ℕ) (old new : List ℕ) : Type 0 where
  pub page : List ℕ
  pub sealed : IsPage 0x86 (dense_at n) (replicate 496 0) page
  pub adds : AddsBytes 0x4200 page old new

-- the copy has a header besides
pub record AddsHeader (header : Header) (old new : List ℕ) : Type 0 where
  pub bytes : List ℕ
  pub size : length bytes ≡ 564
  pub reads : reading bytes ≡ Ok header
  pub adds : AddsBytes 0 bytes old new

-- The copy has all besides but its header: the last byte, over which a block may be written; the blocks and the trees; the fixed pages of so many regions, with maps of these used slots; and the page that older readers look for.
pub record AddsAll (file : List ℕ) (olds : List BlockEntry) (nodes : List NodeEntry) (l : Layout) (used : List Bool) (regions : ℕ) (old new : List ℕ) : Type 0 where
  pub grown : List ℕ
  pub last : AddsBytes (l.eof - 1) (0 ∷ []) old grown
  pub laid : List ℕ
  pub parts : AddsParts file olds nodes l grown laid
  pub mapped : List ℕ
  pub fixed : AddsFixed used regions laid mapped
  pub dense : AddsDense l.tree.next mapped new

-- and then the header
pub record IsWritten (file : List ℕ) (olds : List BlockEntry) (nodes : List NodeEntry) (l : Layout) (used : List Bool) (regions : ℕ) (header : Header) (copy : List ℕ) : Type 0 where
  pub shown : List ℕ
  pub all : AddsAll file olds nodes l used regions [] shown
  pub head : AddsHeader header shown copy

-- What a header and the used slots of so many regions are, of a layout: the header follows the source's, whose next block number this is, and counts the bytes of the slots that are free.
pub record IsMade (old new : Header) (block : ℕ) (l : Layout) (used : List Bool) (regions : ℕ) : Type 0 where
  pub some : 1 ≤ regions
  pub ends : l.eof ≡ region_end regions
  pub small : l.eof ≤ LARGEST
  pub size : length used ≡ 3968 * regions
  pub covered : IsCovered (occupied (layout_places l) regions) used
  pub succeeds : Succeeds old new block (l.tree.next + 1) l.eof
  pub nbt : new.nbt ≡ l.nodes.root
  pub bbt : new.bbt ≡ l.tree.root
  pub free : new.amap_free ≡ 64 * count_by not (take (3968 * regions) used)
  pub last : new.amap_last ≡ last_map l.eof
