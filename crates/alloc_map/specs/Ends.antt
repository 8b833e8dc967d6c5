-- How far a file reaches: the free slots below its end, and the ends of regions.
use Rattle.std.specs.Prelude.{◌≡◌, ◌≤◌, ◌&&◌, ltb, ℕ, ◌+◌, ◌*◌, Bool, not, List, length, count_by, All}
use Rattle.std.specs.List.{range_with_len}
use Rattle.pst_base.specs.declared.places.Place.{Place}
use Rattle.alloc_map.specs.Slots.{is_used, start_of}

-- whether a slot begins below eof and is free
abbrev pub is_free_below : List Bool → ℕ → ℕ → Bool
is_free_below used eof slot = ltb (start_of slot) eof && not (is_used used slot)

-- how many slots that begin below eof are free
unfoldable pub free_slots_of : List Bool → ℕ → ℕ
free_slots_of used eof = count_by (is_free_below used eof) (range_with_len 0 (length used))

-- where so many regions end
abbrev pub region_end : ℕ → ℕ
region_end n = 0x4400 + 253952 * n

-- a file of so many bytes is no shorter than eof, and each place ends in it
pub record Reaches (eof : ℕ) (places : List Place) (end : ℕ) : Type 0 where
  pub longer : eof ≤ end
  pub holds : All (λ (p : Place). p.ib + p.len ≤ end) places

-- of the ends of regions, the least that a file can have that is no shorter and holds the places
pub record IsEndFor (eof : ℕ) (places : List Place) (end : ℕ) : Type 0 where
  pub regions : ℕ
  pub ends : end ≡ region_end regions
  pub reaches : Reaches eof places end
  pub least : (n : ℕ) → Reaches eof places (region_end n) → end ≤ region_end n
