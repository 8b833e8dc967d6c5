-- What makes a file longer by whole regions.
use Rattle.std.specs.Prelude.{ℕ, zero, suc, ◌+◌, ◌-◌, ◌/◌, ◌%◌, ◌==◌, nat_le, if◌then◌else◌, List, [], ◌∷◌, ◌++◌, replicate}
use Rattle.page_frame.specs.Page.{page_of}
use Rattle.lays_kept.specs.declared.Piece.{Piece}
use Rattle.node_layout.specs.Growth.{region_end}

-- how many whole regions a file of so many bytes has
abbrev pub regions_in : ℕ → ℕ
regions_in eof = (eof - 17408) / 253952

-- a page of a kind whose content is one byte again and again, and whose id is its place
unfoldable pub map_page : ℕ → ℕ → ℕ → Piece
map_page kind fill at = record { at = at; bytes = page_of kind (record { bid = record { bits = at }; ib = at }) (replicate 496 fill) }

-- the pages behind a region's AMap page: a PMap page in each eighth region, and an FMap page behind it in region 128 and each 496th after it
abbrev pub further_pages : ℕ → List Piece
further_pages r =
    if r % 496 == 128 then map_page 0x83 0xff (region_end r + 512) ∷ (map_page 0x82 0xff (region_end r + 1024) ∷ [])
    else (if r % 8 == 0 then map_page 0x83 0xff (region_end r + 512) ∷ [] else [])

-- the fixed pages of a region, which begins where r regions end: its AMap page, which may say anything, and those behind it
abbrev pub fixed_pages : ℕ → List Piece
fixed_pages r = map_page 0x84 0 (region_end r) ∷ further_pages r

-- the fixed pages of a region that begins at or past eof
abbrev pub new_pages : ℕ → ℕ → List Piece
new_pages eof r = if nat_le eof (region_end r) then fixed_pages r else []

-- a zero byte at a region's last place
abbrev pub last_byte : ℕ → Piece
last_byte r = record { at = region_end (r + 1) - 1; bytes = 0 ∷ [] }

-- what makes a file of eof bytes longer by n regions from one on
unfoldable pub regions_from : ℕ → ℕ → ℕ → List Piece
regions_from eof from zero = []
regions_from eof from (suc n) = regions_from eof from n ++ (new_pages eof (from + n) ++ last_byte (from + n) ∷ [])

-- what makes a file that ends at eof end at another number: the pieces of each region that ends past eof and not past that
unfoldable pub growth_of : ℕ → ℕ → List Piece
growth_of eof end = regions_from eof (regions_in eof) (regions_in end - regions_in eof)
