-- The two roots of a file without nodes meet neither each other nor an AMap page.
use Rattle.std.proofs.Common.{◌≡◌, subst, inl, inr, ℕ, zero, suc, ◌+◌, ◌≤◌, arith}
use Rattle.pst_base.specs.declared.places.Place.{Place}
use Rattle.pst_base.specs.declared.stops.MemOr.{MemOr}
use Rattle.pst_base.specs.declared.stops.MemOr.TheVariants.{Refused}
use Rattle.alloc_map.specs.declared.overlap.Overlap.{Overlap}
use Rattle.alloc_map.specs.Slots.{slot_of, slots_in}
use Rattle.alloc_map.specs.Standing.{Meet, MeetsSome, IsMeeting, amap_place, amap_places, standing, StopsAtOverlap}
use Rattle.file_layout.specs.Nodes.{places_of}
use Rattle.empty_file.specs.Empty.{alone, block_root, node_root}

-- a place in the first region, behind its AMap page
record IsBehind (p : Place) : Type 0 where
  low : 8 ≤ slot_of p.ib
  high : slot_of p.ib + slots_in p ≤ 3968

one-amap : (p : Place) (r slot : ℕ) → IsBehind p → Meet p (amap_place r) slot → ⊥
one-amap p zero slot behind meet = let a = meet.first.begins in let b = meet.second.ends in let low = behind.low in omega (arith, a, b, low)
one-amap p (suc r) slot behind meet =
    let a = meet.first.ends in
    let b : slot_of (amap_place (suc r)).ib ≤ slot = meet.second.begins in
    let high = behind.high in
    omega (arith, a, b, high)

no-amap : (p : Place) (n slot : ℕ) → IsBehind p → MeetsSome p (amap_places n) slot → ⊥
unfolding MeetsSome amap_places
no-amap p zero slot behind meets = meets
no-amap p (suc n) slot behind (inl meet) = one-amap p n slot behind meet
no-amap p (suc n) slot behind (inr meets) = no-amap p n slot behind meets

two-amaps : (r q slot : ℕ) → q + 1 ≤ r → Meet (amap_place r) (amap_place q) slot → ⊥
two-amaps r q slot lt meet =
    let a : slot_of (amap_place r).ib ≤ slot = meet.first.begins in
    let b = meet.second.ends in
    omega (arith, a, b, lt)

amaps-below : (r n slot : ℕ) → n ≤ r → MeetsSome (amap_place r) (amap_places n) slot → ⊥
unfolding MeetsSome amap_places
amaps-below r zero slot le meets = meets
amaps-below r (suc n) slot le (inl meet) = two-amaps r n slot (omega (arith, le)) meet
amaps-below r (suc n) slot le (inr meets) = amaps-below r n slot (omega (arith, le)) meets

amaps-apart : (n slot : ℕ) → IsMeeting (amap_places n) slot → ⊥
unfolding IsMeeting amap_places
amaps-apart zero slot meets = meets
amaps-apart (suc n) slot (inl meets) = amaps-below n n slot (omega arith) meets
amaps-apart (suc n) slot (inr meets) = amaps-apart n slot meets

-- in any number of regions
pub roots-apart : (n slot : ℕ) → IsMeeting (standing (places_of (alone block_root) (alone node_root)) n) slot → ⊥
unfolding IsMeeting MeetsSome
roots-apart n slot (inl (inl meet)) = let a = meet.first.ends in let b = meet.second.begins in omega (arith, a, b)
roots-apart n slot (inl (inr meets)) = no-amap (record { ib = block_root.ib; len = 512 }) n slot (record { low = omega arith; high = omega arith }) meets
roots-apart n slot (inr (inl meets)) = no-amap (record { ib = node_root.ib; len = 512 }) n slot (record { low = omega arith; high = omega arith }) meets
roots-apart n slot (inr (inr meets)) = amaps-apart n slot meets

-- so no overlap is ever found
pub no-overlap : (n : ℕ) (stop : MemOr Overlap) (overlap : Overlap) → stop ≡ Refused overlap → StopsAtOverlap (standing (places_of (alone block_root) (alone node_root)) n) stop → ⊥
no-overlap n stop overlap is stops =
    let found = subst (StopsAtOverlap (standing (places_of (alone block_root) (alone node_root)) n)) is stops in
    roots-apart n found.slot found.meets
