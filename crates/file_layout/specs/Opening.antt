-- What the bytes of the two files open as.
use Rattle.std.specs.Prelude.{◌≡◌, ℕ, Bool, ◌==◌, nat_lt, List, length, Result, Ok, Err, if◌then◌else◌}
use Rattle.pst_header.specs.declared.header.Header.{Header}
use Rattle.pst_header.specs.declared.header.HeaderRefusal.{HeaderRefusal}
use Rattle.pst_header.specs.Format.{reading}
use Rattle.gate_file.specs.Effective.{is_open, header_bytes}
use Rattle.file_layout.specs.declared.stops.OpenRefusal.{OpenRefusal}
use Rattle.file_layout.specs.declared.stops.OpenRefusal.TheVariants as refusals
use Rattle.file_layout.specs.declared.stops.OpenStop.{OpenStop}
use Rattle.file_layout.specs.declared.stops.OpenStop.TheVariants.{Refused, Fault, Changed, Memory}
use Rattle.file_layout.specs.declared.opening.Opened.{Opened}

-- a header's refusal as one of the opening
abbrev pub of_header : Result Header HeaderRefusal → Result Header OpenRefusal
of_header (Ok h) = Ok h
of_header (Err refusal) = Err (refusals.Header refusal)

-- the header that counts, or the first refusal
unfoldable pub opening : List ℕ → List ℕ → Result Header OpenRefusal
opening main side =
    if length main == 0 then Err refusals.Empty
    else if nat_lt 580 (length side) then Err (refusals.Gate (length side))
    else if nat_lt (length main) 564 then Err (refusals.Short (length main))
    else of_header (reading (header_bytes main side))

-- the answer of an opening: the header that counts, the first refusal, or that the disk failed
abbrev pub Opens : Result Opened OpenStop → List ℕ → List ℕ → Type 0
Opens (Ok opened) main side = (opening main side ≡ Ok opened.header) × (opened.gate_open ≡ is_open side)
Opens (Err (Refused refusal)) main side = opening main side ≡ Err refusal
Opens (Err Fault) main side = Unit {0}
Opens (Err (Changed ib stored computed)) main side = ⊥
Opens (Err Memory) main side = ⊥

-- the same of bytes that are read as a header
abbrev pub ReadsAs : Result Opened OpenStop → Result Header HeaderRefusal → Bool → Type 0
ReadsAs (Ok opened) read gate_open = (read ≡ Ok opened.header) × (opened.gate_open ≡ gate_open)
ReadsAs (Err (Refused refusal)) read gate_open = of_header read ≡ Err refusal
ReadsAs (Err Fault) read gate_open = ⊥
ReadsAs (Err (Changed ib stored computed)) read gate_open = ⊥
ReadsAs (Err Memory) read gate_open = ⊥
