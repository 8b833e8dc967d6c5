-- What comes of decoding a file.
use Rattle.std.specs.Prelude.{◌≡◌, ◌⊎◌, ℕ, List, [], Ok, Err}
use Rattle.pst_outside.specs.World.{Image, World}
use Rattle.pst_outside.specs.Calls.{Rose, Untouched}
use Rattle.pst_header.specs.declared.header.Header.{Header}
use Rattle.btree_pages.specs.declared.entry.BlockEntry.{BlockEntry}
use Rattle.file_layout.specs.declared.stops.OpenRefusal.{OpenRefusal}
use Rattle.file_layout.specs.declared.stops.OpenStop.{OpenStop}
use Rattle.file_layout.specs.declared.stops.OpenStop.TheVariants.{Refused, Fault, Changed, Memory}
use Rattle.file_layout.specs.Nodes.{NodeMap, Lays}
use Rattle.file_layout.specs.Opening.{opening}
use Rattle.file_layout.specs.Trees.{file_of}
use Rattle.file_scan.specs.Found.{LaysBlocks}
use Rattle.file_scan.specs.Scan.{IsFault}
use Rattle.file_decode.specs.Decoding.{method_in, plain_header, seen, decoded_file, decoded_count}
use Rattle.file_decode.specs.Source.{header_in}
use Rattle.file_decode.specs.declared.stops.DecodeStop.{DecodeStop}
use Rattle.file_decode.specs.declared.stops.DecodeStop.TheVariants.{NotEmpty, Reading}

-- The files lay a node map under their header as if neither encoding were one, and these bytes are those of the file with each of its
-- so many data blocks decoded.
pub record IsDecoded (image : Image) (count : ℕ) (copy : List ℕ) : Type 0 where
  pub header : Header
  pub opened : seen image.main image.side ≡ Ok header
  pub blocks : List BlockEntry
  pub laid : LaysBlocks header (file_of image) blocks
  pub count_is : count ≡ decoded_count (method_in (opening image.main image.side)) blocks
  pub copy_is : copy ≡ decoded_file (method_in (opening image.main image.side)) (plain_header (method_in (opening image.main image.side)) (header_in image)) (file_of image) blocks

-- what the refusal names is at fault in the files with this header, and they lay no node map under it
pub record IsFaultyAs (image : Image) (refusal : OpenRefusal) : Type 0 where
  pub header : Header
  pub opened : seen image.main image.side ≡ Ok header
  pub fault : IsFault header (file_of image) refusal
  pub none : (m : NodeMap) → Lays header (file_of image) m → ⊥

-- a refusal holds of the files as if neither encoding were one: no header counts, or one does and what is named is at fault
abbrev pub IsUnread : Image → OpenRefusal → Type 0
IsUnread image refusal = (seen image.main image.side ≡ Err refusal) ⊎ IsFaultyAs image refusal

-- a stop is that a block isn't as it was found
abbrev pub IsChange : OpenStop → Type 0
IsChange (Changed ib stored computed) = Unit {0}
IsChange Fault = ⊥
IsChange Memory = ⊥
IsChange (Refused refusal) = ⊥

-- a stop of the writing of a copy is the disk's, or such a change, which never comes over a world that tells
abbrev pub StopsWriting : OpenStop → World → Type 0
StopsWriting Fault new = Unit {0}
StopsWriting (Changed ib stored computed) new = new.tells → ⊥
StopsWriting Memory new = ⊥
StopsWriting (Refused refusal) new = ⊥

-- How a reading stops, or the writing of a copy. A refusal holds of the files; it and want of memory come before anything is written.
abbrev pub StopsReading : OpenStop → World → World → Type 0
StopsReading (Refused refusal) old new = Untouched old new × (new.tells → IsUnread old.here refusal)
StopsReading Memory old new = Untouched old new
StopsReading Fault old new = Rose old.disk_faults new.disk_faults
StopsReading (Changed ib stored computed) old new = new.tells → ⊥

-- the same, or there was a copy
abbrev pub StopsDecoding : DecodeStop → World → World → Type 0
StopsDecoding NotEmpty old new = Untouched old new × (new.tells → old.here.copy ≡ [] → ⊥)
StopsDecoding (Reading stop) old new = StopsReading stop old new
