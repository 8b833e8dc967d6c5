-- How often a slot is covered.
use Rattle.std.specs.Prelude.{ℕ, ◌+◌, nat_le, nat_lt, ◌&&◌, if◌then◌else◌, List, [], ◌∷◌}
use Rattle.pst_base.specs.declared.places.Place.{Place}
use Rattle.alloc_map.specs.Slots.{slot_of, slots_in}

-- 1 where the place has the slot, and 0 elsewhere
abbrev pub one_at : ℕ → Place → ℕ
one_at slot p = if nat_le (slot_of p.ib) slot && nat_lt slot (slot_of p.ib + slots_in p) then 1 else 0

-- how many places of the list have the slot
abbrev pub tally : ℕ → List Place → ℕ
tally slot [] = 0
tally slot (p ∷ ps) = one_at slot p + tally slot ps
