-- The blocks of a file: where each must stand, what its bytes are, and which one an id names.
use Rattle.std.specs.Prelude.{◌≡◌, ℕ, ◌+◌, ◌%◌, ◌==◌, ◌&&◌, nat_le, nat_lt, if◌then◌else◌, Bool, true, List, [], ◌∷◌, take, drop, Option, Some, None, Result, Ok, Err}
use Rattle.pst_base.specs.Ids.{key_of}
use Rattle.pst_outside.specs.World.{Image}
use Rattle.gate_file.specs.Effective.{effective}
use Rattle.block_frame.specs.declared.block.BlockFault.{BlockFault}
use Rattle.block_frame.specs.Block.{reading}
use Rattle.block_frame.specs.Size.{disk_size_of}
use Rattle.btree_pages.specs.declared.entry.BlockEntry.{BlockEntry}
use Rattle.file_blocks.specs.declared.check.BlockRefusal.{BlockRefusal}
use Rattle.file_blocks.specs.declared.check.BlockRefusal.TheVariants.{Length, Outside, Faulty}

-- the store's file: the bytes that the two parts stand for
abbrev pub file_of : Image → List ℕ
file_of image = effective image.main image.side

-- ---- one block

-- so many bytes may stand there: at a multiple of 64, at or above the first map, and ending at or before eof
abbrev pub has_room : ℕ → ℕ → ℕ → Bool
has_room eof len ib = nat_le 0x4400 ib && ((ib % 64 == 0) && nat_le (ib + len) eof)

abbrev pub faulty : Result (List ℕ) BlockFault → Result (List ℕ) BlockRefusal
faulty (Ok content) = Ok content
faulty (Err fault) = Err (Faulty fault)

-- what is wrong with an entry in a file of eof bytes, before its block's bytes are looked at
unfoldable pub misplaced : ℕ → BlockEntry → Option BlockRefusal
misplaced eof e = if nat_lt 8176 e.cb then Some Length else (if has_room eof (disk_size_of e.cb) e.at.ib then None else Some Outside)

-- a reading, unless something was wrong before
abbrev pub unless : Option BlockRefusal → Result (List ℕ) BlockRefusal → Result (List ℕ) BlockRefusal
unless None read = read
unless (Some refusal) read = Err refusal

-- the data of the block that an entry names in a file of eof bytes, or the first thing that is wrong with it
unfoldable pub data_at : List ℕ → ℕ → BlockEntry → Result (List ℕ) BlockRefusal
data_at file eof e = unless (misplaced eof e) (faulty (reading e.cb e.at (take (disk_size_of e.cb) (drop e.at.ib file))))

-- the entry names a whole block
abbrev pub Stands : List ℕ → ℕ → BlockEntry → Type 0
Stands file eof e = (content : List ℕ) × (data_at file eof e ≡ Ok content)

-- each entry does
abbrev pub AllStand : List ℕ → ℕ → List BlockEntry → Type 0
AllStand file eof [] = Unit {0}
AllStand file eof (e ∷ es) = Stands file eof e × AllStand file eof es

-- ---- by their ids

-- the key of an entry, which is its id without bit 0
abbrev pub entry_key : BlockEntry → ℕ
entry_key e = key_of e.at.bid.bits

-- the keys ascend strictly, and the first isn't below low
abbrev pub rise_from : ℕ → List BlockEntry → Bool
rise_from low [] = true
rise_from low (e ∷ es) = nat_le low (entry_key e) && rise_from (entry_key e + 1) es

-- the entry of a key, if there is one
abbrev pub entry_with : ℕ → List BlockEntry → Option BlockEntry
entry_with key [] = None
entry_with key (e ∷ es) = if entry_key e == key then Some e else entry_with key es

abbrev pub data_of : List ℕ → Option BlockEntry → Option (List ℕ)
data_of file None = None
data_of file (Some e) = Some (take e.cb (drop e.at.ib file))

-- the data of the block of a key, where the block tree has these entries
abbrev pub found_in : List ℕ → List BlockEntry → ℕ → Option (List ℕ)
found_in file entries key = data_of file (entry_with key entries)
