-- Which refusals come of a header that is whole.
use Rattle.std.proofs.Common.{Bool, true, false, ◌≡◌, ℕ, ◌≤◌, ltb, eqb, List, length, Result, Ok, Err, refl, sym, ap, ◌∙◌, None, if◌then◌else◌}
use Rattle.std.proofs.lemmas.Bool.{ltb-false}
use Rattle.pst_header.specs.declared.header.Header.{Header}
use Rattle.pst_header.specs.declared.header.HeaderRefusal.{HeaderRefusal}
use Rattle.pst_header.specs.declared.header.HeaderRefusal.TheVariants.{Encoded}
use Rattle.pst_outside.specs.World.{Image}
use Rattle.file_scan.proofs.OpeningLaws.{opened-long}
use Rattle.file_decode.specs.declared.source.Source.{Source}
use Rattle.file_decode.specs.Decoding.{method_in, seen_of}
use Rattle.file_decode.specs.Source.{IsEncoded, IsSource, header_in}
use Rattle.pst_header.specs.Format.{reading}
use Rattle.gate_file.specs.Effective.{header_bytes}
use Rattle.file_layout.specs.declared.stops.OpenRefusal.TheVariants as refusals
use Rattle.file_layout.specs.Opening.{opening, of_header}

-- only a file that has at least its bytes is refused by its header
long-kinds : (a b c : Bool) (n m : ℕ) (read : Result Header HeaderRefusal) (r : HeaderRefusal)
    → (if a then Err refusals.Empty else if b then Err (refusals.Gate n) else if c then Err (refusals.Short m) else of_header read) ≡ Err (refusals.Header r) → c ≡ false
long-kinds true b c n m read r e = absurd (cc)
long-kinds false true c n m read r e = absurd (cc)
long-kinds false false true n m read r e = absurd (cc)
long-kinds false false false n m read r e = refl

pub refused-long : (main side : List ℕ) (r : HeaderRefusal) → opening main side ≡ Err (refusals.Header r) → 564 ≤ length main
unfolding opening
refused-long main side r e =
    ltb-false (length main) 564
    (long-kinds (eqb (length main) 0) (ltb 580 (length side)) (ltb (length main) 564) (length side) (length main) (reading (header_bytes main side)) r e)

-- a header that was opened
pub source-plain : (image : Image) (header : Header) (bytes : List ℕ) → opening image.main image.side ≡ Ok header → bytes ≡ header_in image → IsSource image (record { header = header; bytes = bytes; method = None })
source-plain image header bytes e is = record { opened = ap (seen_of (header_in image)) e; method = sym (ap method_in e); bytes = is; long = opened-long image.main image.side header e }

-- one that was read as if nothing were encoded
pub source-encoded : (image : Image) (n : ℕ) (source : Source) → opening image.main image.side ≡ Err (refusals.Header (Encoded n)) → IsEncoded n image source → IsSource image source
source-encoded image n source e is = record { opened = ap (seen_of (header_in image)) e ∙ is.opened; method = is.method ∙ sym (ap method_in e); bytes = is.bytes; long = refused-long image.main image.side (Encoded n) e }
