-- The frame of a block: its data, zeros, and a trailer of 16 bytes at its end.
use Rattle.std.specs.Prelude.{◌≡◌, ◌==◌, not, ℕ, ◌+◌, ◌-◌, List, [], ◌∷◌, ◌++◌, length, replicate, take, if◌then◌else◌, Result, Ok, Err}
use Rattle.pst_base.specs.declared.ids.Bref.{Bref}
use Rattle.pst_base.specs.Cells.{Cell, written}
use Rattle.pst_checksum.specs.Crc.{crc_of}
use Rattle.pst_base.specs.Fields.{number_at}
use Rattle.pst_base.specs.Ids.{key_of}
use Rattle.pst_checksum.specs.Sig.{sig_of}
use Rattle.block_frame.specs.declared.block.BlockFault.{BlockFault}
use Rattle.block_frame.specs.declared.block.BlockFault.TheVariants.{Length, Crc, Sig, Bid}
use Rattle.block_frame.specs.Size.{disk_size_of}

-- where the trailer of a block of so many data bytes begins
abbrev pub trailer_at : ℕ → ℕ
trailer_at cb = disk_size_of cb - 16

-- the data of a block of cb data bytes, whose id and place are at, or its first fault
unfoldable pub reading : ℕ → Bref → List ℕ → Result (List ℕ) BlockFault
reading cb at b =
    if not (number_at 2 (trailer_at cb) b == cb) then Err (Length (number_at 2 (trailer_at cb) b) cb)
    else if not (number_at 4 (trailer_at cb + 4) b == crc_of (take cb b)) then Err (Crc (number_at 4 (trailer_at cb + 4) b) (crc_of (take cb b)))
    else if not (number_at 2 (trailer_at cb + 2) b == sig_of at.ib (number_at 8 (trailer_at cb + 8) b)) then Err (Sig (number_at 2 (trailer_at cb + 2) b) (sig_of at.ib (number_at 8 (trailer_at cb + 8) b)))
    else if not (key_of (number_at 8 (trailer_at cb + 8) b) == key_of at.bid.bits) then Err (Bid (key_of (number_at 8 (trailer_at cb + 8) b)) (key_of at.bid.bits))
    else Ok (take cb b)

-- the bytes are the block with this data, whose id and place are at
abbrev pub IsBlock : Bref → List ℕ → List ℕ → Type 0
IsBlock at body block = (length block ≡ disk_size_of (length body)) × (reading (length body) at block ≡ Ok body)

-- a trailer's numbers: the length, the signature, the checksum and the id
abbrev pub trailer_cells : ℕ → ℕ → ℕ → ℕ → List Cell
trailer_cells cb signature checksum bid =
    record { at = 8; size = 8; value = bid } ∷ record { at = 4; size = 4; value = checksum } ∷ record { at = 2; size = 2; value = signature }
    ∷ record { at = 0; size = 2; value = cb } ∷ []

-- a trailer
unfoldable pub trailer_of : ℕ → ℕ → ℕ → ℕ → List ℕ
trailer_of cb signature checksum bid = written (trailer_cells cb signature checksum bid) (replicate 16 0)

-- the block with this data that is written for an id and a place
unfoldable pub block_of : Bref → List ℕ → List ℕ
block_of at body =
    body ++ replicate (trailer_at (length body) - length body) 0 ++ trailer_of (length body) (sig_of at.ib at.bid.bits) (crc_of body) at.bid.bits
