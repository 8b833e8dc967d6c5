-- The places that a file frees: no slot of a fixed page is ever free.
use Rattle.std.specs.Prelude.{ℕ, ◌+◌, ◌-◌, ◌*◌, ◌/◌, max, List, map}
use Rattle.pst_base.specs.declared.places.Place.{Place}
use Rattle.alloc_map.specs.Slots.{slot_of, start_of}
use Rattle.alloc_map.specs.Standing.{fixed_slots}

-- where the fixed pages end of the region in which a place begins
abbrev pub fixed_end : ℕ → ℕ
fixed_end ib = start_of (3968 * (slot_of ib / 3968) + fixed_slots (slot_of ib / 3968))

-- the part of a place behind the fixed pages of its region
abbrev pub behind_fixed : Place → Place
behind_fixed p = record { ib = max p.ib (fixed_end p.ib); len = (p.ib + p.len) - max p.ib (fixed_end p.ib) }

-- of each place
abbrev pub all_behind : List Place → List Place
all_behind ps = map behind_fixed ps
