-- A file whose blocks are encoded, as it would be if they weren't.
use Rattle.std.specs.Prelude.{ℕ, ◌+◌, ◌==◌, if◌then◌else◌, not, replicate, Bool, List, [], ◌∷◌, ◌++◌, take, drop, count_by, Option, Some, None, Result, Err}
use Rattle.byteorder.specs.Endian.{little_bytes}
use Rattle.pst_base.specs.Fields.{replaced}
use Rattle.pst_checksum.specs.Crc.{crc_of}
use Rattle.pst_outside.specs.World.{after_write}
use Rattle.pst_header.specs.declared.header.Header.{Header}
use Rattle.pst_header.specs.declared.header.HeaderRefusal.TheVariants.{Encoded}
use Rattle.pst_header.specs.Format.{reading, full_of}
use Rattle.gate_file.specs.Effective.{header_bytes}
use Rattle.block_frame.specs.Block.{trailer_at}
use Rattle.block_frame.specs.Size.{disk_size_of}
use Rattle.block_encoding.specs.declared.decoding.Method.{Method}
use Rattle.block_encoding.specs.declared.decoding.Method.TheVariants.{Permuted, Cyclic}
use Rattle.block_encoding.specs.Encoding.{decoded}
use Rattle.btree_pages.specs.declared.entry.BlockEntry.{BlockEntry}
use Rattle.data_tree.specs.Tree.{is_internal}
use Rattle.file_layout.specs.declared.stops.OpenRefusal.{OpenRefusal}
use Rattle.file_layout.specs.declared.stops.OpenRefusal.TheVariants as refusals
use Rattle.file_layout.specs.Opening.{opening, of_header}

-- ---- the header

-- the encoding with this number, if it is one
abbrev pub method_of : ℕ → Option Method
method_of n = if n == 1 then Some Permuted else (if n == 2 then Some Cyclic else None)

-- the header's bytes with bCryptMethod 0
unfoldable pub plain : List ℕ → List ℕ
plain b = replaced 513 (little_bytes 1 0) b

-- and with dwCRCFull of these; dwCRCPartial doesn't cover bCryptMethod
unfoldable pub unencoded : List ℕ → List ℕ
unencoded b = replaced 524 (little_bytes 4 (full_of (plain b))) (plain b)

-- how the data blocks are encoded, of a file that opens so
abbrev pub method_in : Result Header OpenRefusal → Option Method
method_in (Err (refusals.Header (Encoded n))) = method_of n
method_in opened = None

-- the header's bytes, which say that nothing is encoded
abbrev pub plain_header : Option Method → List ℕ → List ℕ
plain_header None b = b
plain_header (Some method) b = unencoded b

-- the header of a file that is encoded by this number, as if it weren't; a number that isn't known is refused
abbrev pub seen_by : Option Method → ℕ → List ℕ → Result Header OpenRefusal
seen_by None n b = Err (refusals.Header (Encoded n))
seen_by (Some method) n b = of_header (reading (unencoded b))

-- the same of a file that opens so, with these bytes as the header that counts
abbrev pub seen_of : List ℕ → Result Header OpenRefusal → Result Header OpenRefusal
seen_of b (Err (refusals.Header (Encoded n))) = seen_by (method_of n) n b
seen_of b opened = opened

-- the header that counts, or the first refusal, as if neither encoding were one
abbrev pub seen : List ℕ → List ℕ → Result Header OpenRefusal
seen main side = seen_of (header_bytes main side) (opening main side)

-- zeros in the header's place
unfoldable pub no_header : List ℕ
no_header = replicate 564 0

-- ---- the blocks

-- a block holds data, and so is encoded, where bit 1 of its id is clear
abbrev pub is_data : BlockEntry → Bool
is_data e = not (is_internal e.at.bid)

-- all bytes of the block that an entry names
abbrev pub bytes_at : BlockEntry → List ℕ → List ℕ
bytes_at e file = take (disk_size_of e.cb) (drop e.at.ib file)

-- a block's bytes with other data, of the same length, and the checksum of that
abbrev pub with_data : ℕ → List ℕ → List ℕ → List ℕ
with_data cb body b = replaced (trailer_at cb + 4) (little_bytes 4 (crc_of body)) (body ++ drop cb b)

-- a block's bytes with its data decoded
unfoldable pub decoded_block : Method → BlockEntry → List ℕ → List ℕ
decoded_block method e b = with_data e.cb (decoded method e.at.bid.bits (take e.cb b)) b

-- a copy in which the block of an entry is decoded from the file, if it is one of data
abbrev pub with_block : Method → List ℕ → BlockEntry → List ℕ → List ℕ
with_block method file e copy = if is_data e then after_write copy e.at.ib (decoded_block method e (bytes_at e file)) else copy

-- the same for each of these entries
unfoldable pub with_blocks : Method → List ℕ → List BlockEntry → List ℕ → List ℕ
with_blocks method file [] copy = copy
with_blocks method file (e ∷ es) copy = with_blocks method file es (with_block method file e copy)

abbrev pub decoded_blocks : Option Method → List ℕ → List BlockEntry → List ℕ → List ℕ
decoded_blocks None file es copy = copy
decoded_blocks (Some method) file es copy = with_blocks method file es copy

-- the file's bytes with each data block decoded, behind these bytes of a header
abbrev pub decoded_file : Option Method → List ℕ → List ℕ → List BlockEntry → List ℕ
decoded_file method header file es = header ++ drop 564 (decoded_blocks method file es file)

-- how many data blocks were encoded
abbrev pub decoded_count : Option Method → List BlockEntry → ℕ
decoded_count None es = 0
decoded_count (Some method) es = count_by is_data es
