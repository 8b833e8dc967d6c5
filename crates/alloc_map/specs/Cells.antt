-- The free cells of a file. A region has 30 cells of 8192 bytes, the first at its byte 2048.
use Rattle.std.specs.Prelude.{◌≡◌, ◌≤◌, ℕ, ◌+◌, ◌-◌, ◌*◌, ◌/◌, ◌%◌, min, Bool, not, List, length, slice_range, count_by}
use Rattle.std.specs.List.{list_all, range_with_len}
use Rattle.alloc_map.specs.Slots.{regions_of}

-- whether each of n slots from a slot on is free
unfoldable pub are_free : List Bool → ℕ → ℕ → Bool
are_free used slot n = list_all not (slice_range used slot (slot + n))

-- the first slot of a cell: 30 cells of a region are counted, then those of the next
abbrev pub cell_slot : ℕ → ℕ
cell_slot cell = 3968 * (cell / 30) + 32 + 128 * (cell % 30)

-- how many cells have no used slot
unfoldable pub free_cells_of : List Bool → ℕ
free_cells_of used = count_by (λ cell. are_free used (cell_slot cell) 128) (range_with_len 0 (30 * regions_of used))

-- how many of the first cells have no used slot
unfoldable pub free_below : List Bool → ℕ → ℕ
free_below used cells = count_by (λ cell. are_free used (cell_slot cell) 128) (range_with_len 0 cells)

-- how many cells end at or before a slot
abbrev pub cells_until : ℕ → ℕ
cells_until slot = 30 * (slot / 3968) + min 30 ((slot % 3968 - 32) / 128)

-- how many cells begin before a slot
abbrev pub cells_from : ℕ → ℕ
cells_from slot = 30 * (slot / 3968) + min 30 ((slot % 3968 + 95) / 128)

-- the slots make whole regions, at most 8192, and the number is that of their free cells
pub record IsCounted (used : List Bool) (free : ℕ) : Type 0 where
  pub whole : length used ≡ 3968 * regions_of used
  pub few : regions_of used ≤ 8192
  pub count : free ≡ free_cells_of used

-- where the places for pages in cells begin: a cell has sixteen
abbrev pub page_slot : ℕ → ℕ
page_slot g = cell_slot (g / 16) + 8 * (g % 16)

-- how many of them are free
unfoldable pub page_rooms : List Bool → ℕ
page_rooms used = count_by (λ g. are_free used (page_slot g) 8) (range_with_len 0 (16 * (30 * regions_of used)))
