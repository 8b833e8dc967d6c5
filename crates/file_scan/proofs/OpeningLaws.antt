-- Which refusals are of the header, and what an opened file has.
use Rattle.std.proofs.Common.{Bool, true, false, ◌≡◌, ℕ, ◌≤◌, ltb, eqb, List, length, Result, Ok, Err, refl, inl, if◌then◌else◌}
use Rattle.std.proofs.lemmas.Bool.{ltb-false}
use Rattle.pst_outside.specs.World.{Image}
use Rattle.pst_header.specs.declared.header.Header.{Header}
use Rattle.pst_header.specs.declared.header.HeaderRefusal.{HeaderRefusal}
use Rattle.pst_header.specs.Format.{reading}
use Rattle.gate_file.specs.Effective.{header_bytes}
use Rattle.file_layout.specs.declared.stops.OpenRefusal.TheVariants as refusals
use Rattle.file_layout.specs.declared.stops.OpenStop.{OpenStop}
use Rattle.file_layout.specs.declared.stops.OpenStop.TheVariants.{Refused, Fault, Changed, Memory}
use Rattle.file_layout.specs.Opening.{opening, of_header, Opens}
use Rattle.file_scan.specs.Scan.{StopsScan}

-- a refusal of the header is one of the scan
pub opening-stops : (image : Image) (stop : OpenStop) → Opens (Err stop) image.main image.side → StopsScan stop image
opening-stops image Memory opens = tt
opening-stops image Fault opens = tt
opening-stops image (Changed ib stored computed) opens = opens
opening-stops image (Refused refusal) opens = inl opens

-- a file whose header was opened has at least its bytes
long-kinds : (a b c : Bool) (n m : ℕ) (read : Result Header HeaderRefusal) (h : Header)
    → (if a then Err refusals.Empty else if b then Err (refusals.Gate n) else if c then Err (refusals.Short m) else of_header read) ≡ Ok h → c ≡ false
long-kinds true b c n m read h e = absurd (cc)
long-kinds false true c n m read h e = absurd (cc)
long-kinds false false true n m read h e = absurd (cc)
long-kinds false false false n m read h e = refl

pub opened-long : (main side : List ℕ) (h : Header) → opening main side ≡ Ok h → 564 ≤ length main
unfolding opening
opened-long main side h e =
    ltb-false (length main) 564
    (long-kinds (eqb (length main) 0) (ltb 580 (length side)) (ltb (length main) 564) (length side) (length main) (reading (header_bytes main side)) h e)
