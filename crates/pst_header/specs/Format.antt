-- The header's bytes: its fields as cells at places, and how bytes read as a header.
use Rattle.std.specs.Prelude.{◌≡◌, ℕ, zero, suc, ◌+◌, ◌*◌, ◌==◌, ◌&&◌, not, if◌then◌else◌, true, false, List, [], ◌∷◌, ◌++◌, map, take, drop, slice_index, replicate, Result, Ok, Err}
use Rattle.std.specs.List.{range_with_len}
use Rattle.pst_base.specs.Cells.{Cell, written}
use Rattle.pst_checksum.specs.Crc.{crc_of}
use Rattle.pst_base.specs.Fields.{number_at}
use Rattle.pst_header.specs.declared.header.Header.{Header}
use Rattle.pst_header.specs.declared.header.HeaderRefusal.{HeaderRefusal}
use Rattle.pst_header.specs.declared.header.HeaderRefusal.TheVariants.{NotPst, Version, Crc, Encoded}
use Rattle.pst_header.specs.declared.layout.TheConstants.{MAGIC, CRC_PARTIAL, MAGIC_CLIENT, VERSION, NEXT_PAGE, UNIQUE, INDEXES, EOF, AMAP_LAST, AMAP_FREE, PMAP_FREE, NBT_BID, NBT_IB, BBT_BID, BBT_IB, MAPS, CRYPT, NEXT_BLOCK, CRC_FULL, IS_PST, IS_STORE, UNICODE, PARTIAL, FULL}

-- ---- the layout

-- a number in so many bytes from a place on
abbrev pub cell : ℕ → ℕ → ℕ → Cell
cell at size value = record { at = at; size = size; value = value }

-- the fields of the ROOT
unfoldable pub root_cells : Header → List Cell
root_cells h =
    cell EOF 8 h.eof ∷ cell AMAP_LAST 8 h.amap_last ∷ cell AMAP_FREE 8 h.amap_free ∷ cell PMAP_FREE 8 h.pmap_free
    ∷ cell NBT_BID 8 h.nbt.bid.bits ∷ cell NBT_IB 8 h.nbt.ib ∷ cell BBT_BID 8 h.bbt.bid.bits ∷ cell BBT_IB 8 h.bbt.ib
    ∷ cell MAPS 1 h.maps ∷ []

-- the fields around it
unfoldable pub own_cells : Header → List Cell
own_cells h =
    cell VERSION 2 h.wver ∷ cell CRYPT 1 h.crypt ∷ cell UNIQUE 4 h.unique ∷ cell NEXT_BLOCK 8 h.next_block ∷ cell NEXT_PAGE 8 h.next_page ∷ []

-- the first n indexes, the last of them first
unfoldable pub index_cells : List ℕ → ℕ → List Cell
index_cells xs zero = []
index_cells xs (suc n) = cell (INDEXES + 4 * n) 4 (slice_index xs n) ∷ index_cells xs n

-- the two checksums
unfoldable pub crc_cells : ℕ → ℕ → List Cell
crc_cells partial full = cell CRC_PARTIAL 4 partial ∷ cell CRC_FULL 4 full ∷ []

-- all of them
abbrev pub all_cells : ℕ → ℕ → Header → List Cell
all_cells partial full h = crc_cells partial full ++ (root_cells h ++ (own_cells h ++ index_cells h.indexes 32))

-- the bytes with the header's fields in them
unfoldable pub with_fields : Header → List ℕ → List ℕ
with_fields h b = written (root_cells h) (written (own_cells h) (written (index_cells h.indexes 32) b))

-- the bytes with these checksums in them
unfoldable pub with_crcs : ℕ → ℕ → List ℕ → List ℕ
with_crcs partial full b = written (crc_cells partial full) b

-- ---- reading

-- the checksums that the bytes ought to have
unfoldable pub partial_of : List ℕ → ℕ
partial_of b = crc_of (take PARTIAL (drop MAGIC_CLIENT b))

unfoldable pub full_of : List ℕ → ℕ
full_of b = crc_of (take FULL (drop MAGIC_CLIENT b))

-- a header of zeros
abbrev pub blank : Header
blank = record {
  wver = 0;
  crypt = 0;
  unique = 0;
  next_block = 0;
  next_page = 0;
  indexes = replicate 32 0;
  eof = 0;
  amap_last = 0;
  amap_free = 0;
  pmap_free = 0;
  nbt = record { bid = record { bits = 0 }; ib = 0 };
  bbt = record { bid = record { bits = 0 }; ib = 0 };
  maps = 0;
  kept = replicate 564 0;
}

-- the bytes with zeros in place of all fields and checksums
unfoldable pub blanked : List ℕ → List ℕ
blanked b = with_crcs 0 0 (with_fields blank b)

-- the last indexes given, by kind
unfoldable pub indexes_of : List ℕ → List ℕ
indexes_of b = map (λ kind. number_at 4 (INDEXES + 4 * kind) b) (range_with_len 0 32)

-- the fields that the bytes hold
unfoldable pub header_of : List ℕ → Header
header_of b = record {
  wver = number_at 2 VERSION b;
  crypt = number_at 1 CRYPT b;
  unique = number_at 4 UNIQUE b;
  next_block = number_at 8 NEXT_BLOCK b;
  next_page = number_at 8 NEXT_PAGE b;
  indexes = indexes_of b;
  eof = number_at 8 EOF b;
  amap_last = number_at 8 AMAP_LAST b;
  amap_free = number_at 8 AMAP_FREE b;
  pmap_free = number_at 8 PMAP_FREE b;
  nbt = record { bid = record { bits = number_at 8 NBT_BID b }; ib = number_at 8 NBT_IB b };
  bbt = record { bid = record { bits = number_at 8 BBT_BID b }; ib = number_at 8 BBT_IB b };
  maps = number_at 1 MAPS b;
  kept = blanked b;
}

-- the header that the bytes are, or the first refusal
unfoldable pub reading : List ℕ → Result Header HeaderRefusal
reading b =
    if not ((number_at 4 MAGIC b == IS_PST) && (number_at 2 MAGIC_CLIENT b == IS_STORE)) then Err NotPst
    else if not (number_at 2 VERSION b == UNICODE) then Err (Version (number_at 2 VERSION b))
    else if not (number_at 4 CRC_PARTIAL b == partial_of b) then Err (Crc false (number_at 4 CRC_PARTIAL b) (partial_of b))
    else if not (number_at 4 CRC_FULL b == full_of b) then Err (Crc true (number_at 4 CRC_FULL b) (full_of b))
    else if not (number_at 1 CRYPT b == 0) then Err (Encoded (number_at 1 CRYPT b))
    else Ok (header_of b)

-- ---- writing

-- a header that some bytes can be: its version, its encoding and its magic numbers are right, and it keeps zeros where fields and checksums go
pub record IsWritable (h : Header) : Type 0 where
  pub version : h.wver ≡ UNICODE
  pub plain : h.crypt ≡ 0
  pub magic : number_at 4 MAGIC h.kept ≡ IS_PST
  pub client : number_at 2 MAGIC_CLIENT h.kept ≡ IS_STORE
  pub blank : blanked h.kept ≡ h.kept

-- the bytes of a header: its fields and both checksums over what it keeps
unfoldable pub bytes_of : Header → List ℕ
bytes_of h = let b = with_fields h h.kept in with_crcs (partial_of b) (full_of b) b
