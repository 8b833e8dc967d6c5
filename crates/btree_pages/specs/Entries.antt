-- The entries of tree pages: their bytes, and what bytes are as an entry.
use Rattle.std.specs.Prelude.{ℕ, ◌<◌, ◌^◌, ◌%◌, List, ◌++◌}
use Rattle.byteorder.specs.Endian.{little_bytes}
use Rattle.pst_base.specs.Fields.{number_at}
use Rattle.btree_pages.specs.declared.entry.BlockEntry.{BlockEntry}
use Rattle.btree_pages.specs.declared.entry.NodeEntry.{NodeEntry}
use Rattle.btree_pages.specs.declared.inner.Inner.{Inner}

-- the key of a node or of a page of the node tree: the low 32 bits of 8 bytes
abbrev pub node_key : ℕ → ℕ
node_key first = first % 2 ^ 32

-- ---- a block

-- the numbers have the sizes of their fields
pub record BlockFits (e : BlockEntry) : Type 0 where
  pub bid : e.at.bid.bits < 2 ^ 64
  pub ib : e.at.ib < 2 ^ 64
  pub cb : e.cb < 2 ^ 16
  pub refs : e.refs < 2 ^ 16

unfoldable pub block_bytes : BlockEntry → List ℕ
block_bytes e =
    little_bytes 8 e.at.bid.bits ++ (little_bytes 8 e.at.ib ++ (little_bytes 2 e.cb ++ (little_bytes 2 e.refs ++ little_bytes 4 0)))

unfoldable pub block_of : List ℕ → BlockEntry
block_of b = record { at = record { bid = record { bits = number_at 8 0 b }; ib = number_at 8 8 b }; cb = number_at 2 16 b; refs = number_at 2 18 b }

-- ---- a node

pub record NodeFits (e : NodeEntry) : Type 0 where
  pub nid : e.nid.bits < 2 ^ 32
  pub content : e.content.bits < 2 ^ 64
  pub subnodes : e.subnodes.bits < 2 ^ 64
  pub parent : e.parent.bits < 2 ^ 32

unfoldable pub node_bytes : NodeEntry → List ℕ
node_bytes e =
    little_bytes 8 e.nid.bits ++ (little_bytes 8 e.content.bits ++ (little_bytes 8 e.subnodes.bits ++ (little_bytes 4 e.parent.bits ++ little_bytes 4 0)))

unfoldable pub node_of : List ℕ → NodeEntry
node_of b = record { nid = record { bits = node_key (number_at 8 0 b) }; content = record { bits = number_at 8 8 b }; subnodes = record { bits = number_at 8 16 b }; parent = record { bits = number_at 4 24 b } }

-- ---- an inner page's entry

pub record InnerFits (e : Inner) : Type 0 where
  pub key : e.key < 2 ^ 64
  pub bid : e.page.bid.bits < 2 ^ 64
  pub ib : e.page.ib < 2 ^ 64

unfoldable pub inner_bytes : Inner → List ℕ
inner_bytes e = little_bytes 8 e.key ++ (little_bytes 8 e.page.bid.bits ++ little_bytes 8 e.page.ib)

-- the entry with its key as it stands, which the tree's own rule may shorten
unfoldable pub inner_of : List ℕ → Inner
inner_of b = record { key = number_at 8 0 b; page = record { bid = record { bits = number_at 8 8 b }; ib = number_at 8 16 b } }
