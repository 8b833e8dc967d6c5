-- The frame of a page: 496 bytes of content and a trailer of 16.
use Rattle.std.specs.Prelude.{◌≡◌, ◌==◌, not, ℕ, List, [], ◌∷◌, ◌++◌, length, replicate, take, if◌then◌else◌, Result, Ok, Err, ◌||◌}
use Rattle.pst_base.specs.declared.ids.Bref.{Bref}
use Rattle.pst_base.specs.declared.stops.PageFault.{PageFault}
use Rattle.pst_base.specs.declared.stops.PageFault.TheVariants.{Kind, Crc, Sig, Bid}
use Rattle.pst_base.specs.Cells.{Cell, written}
use Rattle.pst_checksum.specs.Crc.{crc_of}
use Rattle.pst_base.specs.Fields.{number_at}
use Rattle.pst_checksum.specs.Sig.{sig_of}

-- the signature of a page of a kind: pages of the two trees and the list of dense pages have that of their place and id, and the maps have 0
unfoldable pub signature_of : ℕ → ℕ → ℕ → ℕ
signature_of kind ib bid = if (kind == 0x80 || kind == 0x81) || kind == 0x86 then sig_of ib bid else 0

-- the first of the two bytes that hold the kind which isn't this kind, or the kind where both are
unfoldable pub stored_kind : ℕ → List ℕ → ℕ
stored_kind kind b = if number_at 1 496 b == kind then number_at 1 497 b else number_at 1 496 b

-- the content of a page of a kind, whose id and place are at, or its first fault
unfoldable pub reading : ℕ → Bref → List ℕ → Result (List ℕ) PageFault
reading kind at b =
    if not (stored_kind kind b == kind) then Err (Kind (stored_kind kind b) kind)
    else if not (number_at 4 500 b == crc_of (take 496 b)) then Err (Crc (number_at 4 500 b) (crc_of (take 496 b)))
    else if not (number_at 2 498 b == signature_of kind at.ib (number_at 8 504 b)) then Err (Sig (number_at 2 498 b) (signature_of kind at.ib (number_at 8 504 b)))
    else if not (number_at 8 504 b == at.bid.bits) then Err (Bid (number_at 8 504 b) at.bid.bits)
    else Ok (take 496 b)

-- the bytes are the page of a kind with this content, whose id and place are at
abbrev pub IsPage : ℕ → Bref → List ℕ → List ℕ → Type 0
IsPage kind at body page = (length page ≡ 512) × (reading kind at page ≡ Ok body)

-- a trailer's numbers: the kind twice, the signature, the checksum and the id
abbrev pub trailer_cells : ℕ → ℕ → ℕ → ℕ → List Cell
trailer_cells kind signature checksum bid =
    record { at = 8; size = 8; value = bid } ∷ record { at = 4; size = 4; value = checksum } ∷ record { at = 2; size = 2; value = signature }
    ∷ record { at = 1; size = 1; value = kind } ∷ record { at = 0; size = 1; value = kind } ∷ []

-- a trailer
unfoldable pub trailer_of : ℕ → ℕ → ℕ → ℕ → List ℕ
trailer_of kind signature checksum bid = written (trailer_cells kind signature checksum bid) (replicate 16 0)

-- the page of a kind with a content, whose id and place are at
unfoldable pub page_of : ℕ → Bref → List ℕ → List ℕ
page_of kind at body = body ++ trailer_of kind (signature_of kind at.ib at.bid.bits) (crc_of body) at.bid.bits
