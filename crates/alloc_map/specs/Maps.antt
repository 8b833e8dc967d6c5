-- The map page of a region ([MS-PST] 2.2.2.7.2).
use Rattle.std.specs.Prelude.{◌≡◌, ℕ, ◌*◌, Bool, List, take, drop}
use Rattle.pst_base.specs.declared.ids.Bref.{Bref}
use Rattle.page_frame.specs.Page.{IsPage}
use Rattle.alloc_map.specs.Packed.{bits_of}
use Rattle.alloc_map.specs.Slots.{start_of}

-- where a region's map page stands, which is its id too
abbrev pub map_place : ℕ → Bref
map_place r = record { bid = record { bits = start_of (3968 * r) }; ib = start_of (3968 * r) }

-- the page has kind 84h, and a bit for each slot of the region, set where it is used
pub record IsMapPage (used : List Bool) (r : ℕ) (page : List ℕ) : Type 0 where
  pub body : List ℕ
  pub sealed : IsPage 0x84 (map_place r) body page
  pub bits : bits_of body ≡ take 3968 (drop (3968 * r) used)
