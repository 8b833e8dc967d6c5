-- The slots of 64 bytes of which a file's regions are made. Slot 0 begins at 4400h, and each region has 3968.
-- A set of used slots is a list with one entry for each slot of the regions: true where the slot is used.
use Rattle.std.specs.Prelude.{◌≡◌, ◌<◌, ◌≤◌, ℕ, ◌+◌, ◌-◌, ◌*◌, ◌/◌, ◌%◌, Bool, false, List, length, slice_index_or, ◌||◌}
use Rattle.pst_base.specs.declared.places.Place.{Place}

-- where a slot begins in the file
abbrev pub start_of : ℕ → ℕ
start_of slot = 0x4400 + 64 * slot

-- the slot that begins at a byte of the file
abbrev pub slot_of : ℕ → ℕ
slot_of ib = (ib - 0x4400) / 64

-- how many slots a place has
abbrev pub slots_in : Place → ℕ
slots_in p = p.len / 64

-- how many regions the slots make
abbrev pub regions_of : List Bool → ℕ
regions_of used = length used / 3968

-- whether a slot is used
abbrev pub is_used : List Bool → ℕ → Bool
is_used used slot = slice_index_or used slot false

-- the place is made of whole slots of so many regions
pub record IsLaid (regions : ℕ) (p : Place) : Type 0 where
  pub above : 0x4400 ≤ p.ib
  pub start : p.ib % 64 ≡ 0
  pub whole : p.len % 64 ≡ 0
  pub within : p.ib + p.len ≤ 0x4400 + 253952 * regions

-- each of n slots from a slot on is used, or each is free
abbrev pub AreAll : List Bool → ℕ → ℕ → Bool → Type 0
AreAll used slot n value = (s : ℕ) → slot ≤ s → s < slot + n → is_used used s ≡ value

-- just the n slots from a slot on have become used, or free
pub record Becomes (old new : List Bool) (slot n : ℕ) (value : Bool) : Type 0 where
  pub size : length new ≡ length old
  pub inside : AreAll new slot n value
  pub below : (s : ℕ) → s < slot → is_used new s ≡ is_used old s
  pub above : (s : ℕ) → slot + n ≤ s → is_used new s ≡ is_used old s

-- each slot is used that was used in one of the two
pub record Unites (one other new : List Bool) : Type 0 where
  pub size : length new ≡ length one
  pub either : (s : ℕ) → is_used new s ≡ (is_used one s || is_used other s)

-- n slots from a slot on lie in region r, outside of its first 2048 bytes
pub record InRegion (r slot n : ℕ) : Type 0 where
  pub low : 3968 * r + 32 ≤ slot
  pub high : slot + n ≤ 3968 * r + 3968

-- n slots from a slot on are free and lie in one region, outside of its first 2048 bytes
pub record IsRoom (used : List Bool) (n slot : ℕ) : Type 0 where
  pub region : ℕ
  pub exists : region < regions_of used
  pub inside : InRegion region slot n
  pub free : AreAll used slot n false

-- there is room for a page of 512 bytes, at a multiple of 512
pub record IsPageRoom (used : List Bool) (slot : ℕ) : Type 0 where
  pub room : IsRoom used 8 slot
  pub aligned : start_of slot % 512 ≡ 0

-- the least slot of which P holds begins at ib
pub record BeginsLeast (P : ℕ → Type 0) (ib : ℕ) : Type 0 where
  pub start : ib ≡ start_of (slot_of ib)
  pub holds : P (slot_of ib)
  pub least : (other : ℕ) → P other → slot_of ib ≤ other
