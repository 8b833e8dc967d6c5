-- The same places in another order, or fewer, cover no slot twice where they did not.
use Rattle.std.proofs.Common.{◌≤◌, ◌+◌, inl, inr, ℕ, List, [], ◌∷◌, ◌≡◌, refl, arith}
use Rattle.std.proofs.lemmas.Bool.{le-leb, lt-ltb}
use Rattle.pst_base.specs.declared.places.Place.{Place}
use Rattle.alloc_map.specs.Slots.{slot_of, slots_in}
use Rattle.alloc_map.specs.Standing.{Covers}
use Rattle.alloc_map.specs.Covered.{IsTwice, Once}
use Rattle.alloc_map.specs.Tally.{one_at, tally}
use Rattle.alloc_map.proofs.TallyLaws.{some_tally, tally_twice}

covers_one : (p : Place) (slot : ℕ) → Covers p slot → one_at slot p ≡ 1
covers_one p slot covers = rw (le-leb (slot_of p.ib) slot covers.begins, lt-ltb slot (slot_of p.ib + slots_in p) covers.ends) refl

twice_tally : (ps : List Place) (slot : ℕ) → IsTwice ps slot → 2 ≤ tally slot ps
unfolding IsTwice
twice_tally [] slot twice = absurd twice
twice_tally (p ∷ ps) slot (inl both) = omega (arith, covers_one p slot both.0, some_tally ps slot both.1)
twice_tally (p ∷ ps) slot (inr twice) = let h = twice_tally ps slot twice in omega (arith, h)

pub once_reordered : (xs ys : List Place) → ((slot : ℕ) → tally slot ys ≤ tally slot xs) → Once xs → Once ys
once_reordered xs ys fewer once slot twice = once slot (tally_twice xs slot (omega (arith, twice_tally ys slot twice, fewer slot)))
