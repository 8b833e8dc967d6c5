-- What is read of the header.
use Rattle.std.specs.Prelude.{◌≡◌, ◌≤◌, ℕ, List, length, Result, Ok, Err}
use Rattle.pst_outside.specs.World.{Image}
use Rattle.pst_header.specs.declared.header.Header.{Header}
use Rattle.gate_file.specs.Effective.{header_bytes}
use Rattle.file_layout.specs.declared.stops.OpenRefusal.{OpenRefusal}
use Rattle.file_layout.specs.declared.stops.OpenStop.{OpenStop}
use Rattle.file_layout.specs.declared.stops.OpenStop.TheVariants.{Refused, Fault, Changed, Memory}
use Rattle.file_layout.specs.Opening.{opening}
use Rattle.file_decode.specs.Decoding.{method_of, method_in, plain_header, seen_by, seen}
use Rattle.file_decode.specs.declared.source.Source.{Source}

-- the bytes of the header that counts
abbrev pub header_in : Image → List ℕ
header_in image = header_bytes image.main image.side

-- it was read of files that are encoded by the method of this number
pub record IsEncoded (number : ℕ) (image : Image) (source : Source) : Type 0 where
  pub opened : seen_by (method_of number) number (header_in image) ≡ Ok source.header
  pub method : source.method ≡ method_of number
  pub bytes : source.bytes ≡ plain_header source.method (header_in image)

-- it was read of these files
pub record IsSource (image : Image) (source : Source) : Type 0 where
  pub opened : seen image.main image.side ≡ Ok source.header
  pub method : source.method ≡ method_in (opening image.main image.side)
  pub bytes : source.bytes ≡ plain_header source.method (header_in image)
  pub long : 564 ≤ length image.main

-- a stop but for the disk's is this reading's refusal
abbrev pub StopsAs : OpenStop → Result Header OpenRefusal → Type 0
StopsAs Fault read = Unit {0}
StopsAs (Refused refusal) read = read ≡ Err refusal
StopsAs (Changed ib stored computed) read = ⊥
StopsAs Memory read = ⊥
