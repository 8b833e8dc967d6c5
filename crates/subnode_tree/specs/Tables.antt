-- The blocks that are to list subnodes, and their ids.
use Rattle.std.specs.Prelude.{ℕ, ◌+◌, ◌*◌, ◌<◌, ◌^◌, nat_lt, if◌then◌else◌, List, [], ◌∷◌, ◌++◌, map, length}
use Rattle.byteorder.specs.Endian.{little_bytes}
use Rattle.pst_base.specs.declared.ids.Bid.{Bid}
use Rattle.data_tree.specs.Plan.{cut, numbered}
use Rattle.subnode_tree.specs.declared.blocks.Listed.{Listed}
use Rattle.subnode_tree.specs.declared.tables.Row.{Row}

-- the numbers have the sizes of their fields
pub record Fits (row : Row) : Type 0 where
  pub nid : (row.nid).bits < 2 ^ 32
  pub content : (row.content).bits < 2 ^ 64
  pub subnodes : (row.subnodes).bits < 2 ^ 64

-- a block of a level with so many entries, of which these are the bytes
unfoldable pub table : ℕ → ℕ → List ℕ → List ℕ
table level count bytes = 2 ∷ level ∷ (little_bytes 2 count ++ (little_bytes 4 0 ++ bytes))

-- entries of a block of level 0
abbrev pub rows_bytes : List Row → List ℕ
rows_bytes [] = []
rows_bytes (row ∷ rows) = little_bytes 8 (row.nid).bits ++ (little_bytes 8 (row.content).bits ++ (little_bytes 8 (row.subnodes).bits ++ rows_bytes rows))

-- entries of a block of level 1
abbrev pub listed_bytes : List Listed → List ℕ
listed_bytes [] = []
listed_bytes (listed ∷ more) = little_bytes 8 (listed.nid).bits ++ (little_bytes 8 (listed.block).bits ++ listed_bytes more)

-- the block of level 0 with these entries
abbrev pub leaf : List Row → List ℕ
leaf rows = table 0 (length rows) (rows_bytes rows)

-- the block of level 1 with these
abbrev pub inner : List Listed → List ℕ
inner listed = table 1 (length listed) (listed_bytes listed)

-- the first NID
abbrev pub first_nid : List Row → ℕ
first_nid [] = 0
first_nid (row ∷ rows) = (row.nid).bits

-- how blocks of level 0 with the ids from a number on are listed, each with the first NID in it
abbrev pub listed_as : ℕ → List (List Row) → List Listed
listed_as next [] = []
listed_as next (part ∷ parts) = record { nid = record { bits = first_nid part }; block = record { bits = next + 2 } } ∷ listed_as (next + 4) parts

-- the blocks of level 0 with some entries, 340 in each but the last
unfoldable pub leaves : ℕ → List Row → List (Bid × List ℕ)
leaves next rows = numbered 2 next (map leaf (cut 340 rows))

-- the block of level 1 that lists some of level 0; one alone needs none
unfoldable pub top : ℕ → List Listed → List (Bid × List ℕ)
top next listed = if nat_lt 1 (length listed) then numbered 2 next (inner listed ∷ []) else []

-- the blocks that list some subnodes: those of level 0, then the one above them
unfoldable pub tables : ℕ → List Row → List (Bid × List ℕ)
tables next rows = leaves next rows ++ top (next + 4 * length (leaves next rows)) (listed_as next (cut 340 rows))
