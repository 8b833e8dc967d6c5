-- Where blocks and pages have room, and what is kept to find it.
use Rattle.std.specs.Prelude.{◌≡◌, ◌<◌, ◌≤◌, ℕ, ◌%◌, ◌*◌, Bool, false, List, length, slice_index}
use Rattle.alloc_map.specs.Slots.{AreAll, InRegion, IsRoom}

-- P holds of the number, and of none below it
pub record IsLeast (P : ℕ → Type 0) (p : ℕ) : Type 0 where
  pub holds : P p
  pub least : (other : ℕ) → P other → p ≤ other

-- a region has n free slots from p on
pub record IsIn (used : List Bool) (region n p : ℕ) : Type 0 where
  pub inside : InRegion region p n
  pub free : AreAll used p n false

-- a region has a free page from slot p on
pub record IsPageIn (used : List Bool) (region p : ℕ) : Type 0 where
  pub inside : InRegion region p 8
  pub free : AreAll used p 8 false
  pub aligned : p % 8 ≡ 0

-- there is room for a page, at a multiple of eight slots
pub record IsRoomAtEighth (used : List Bool) (p : ℕ) : Type 0 where
  pub room : IsRoom used 8 p
  pub aligned : p % 8 ≡ 0

-- no run of up to 128 free slots of a region is longer than its bound
abbrev pub AreBounds : List Bool → List ℕ → Type 0
AreBounds used bounds = (r p n : ℕ) → r < length bounds → n ≤ 128 → IsIn used r n p → n ≤ slice_index bounds r

-- a region of bound 0 has no free page
abbrev pub ArePageBounds : List Bool → List ℕ → Type 0
ArePageBounds used bounds = (r p : ℕ) → r < length bounds → IsPageIn used r p → 1 ≤ slice_index bounds r

-- what holds of the used slots and the bounds of a file's regions
pub record IsSound (used : List Bool) (bounds pages : List ℕ) : Type 0 where
  pub whole : length used ≡ 3968 * length bounds
  pub some : 1 ≤ length bounds
  pub few : length bounds ≤ 8192
  pub paged : length pages ≡ length bounds
  pub bounded : AreBounds used bounds
  pub page_bounded : ArePageBounds used pages
