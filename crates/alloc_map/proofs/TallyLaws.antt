-- No slot is covered twice just where each is covered at most once, in whatever order the places stand.
use Rattle.std.proofs.Common.{Bool, true, false, ◌≡◌, ◌⊎◌, inl, inr, ℕ, zero, suc, ◌+◌, ◌≤◌, leb, ltb, ◌&&◌, List, [], ◌∷◌, ◌++◌, refl, arith, if◌then◌else◌}
use Rattle.std.proofs.lemmas.Bool.{leb-true, le-leb, lt-ltb, ltb-true}
use Rattle.pst_base.specs.declared.places.Place.{Place}
use Rattle.alloc_map.specs.Slots.{slot_of, slots_in}
use Rattle.alloc_map.specs.Standing.{Covers, SomeCovers}
use Rattle.alloc_map.specs.Covered.{IsTwice, Once}
use Rattle.alloc_map.specs.Tally.{one_at, tally}

pub tally_append : (slot : ℕ) (xs ys : List Place) → tally slot (xs ++ ys) ≡ tally slot xs + tally slot ys
tally_append slot [] ys = omega arith
tally_append slot (x ∷ xs) ys = let h = tally_append slot xs ys in omega (arith, h)

covers_one : (p : Place) (slot : ℕ) → Covers p slot → one_at slot p ≡ 1
covers_one p slot covers = rw (le-leb (slot_of p.ib) slot covers.begins, lt-ltb slot (slot_of p.ib + slots_in p) covers.ends) refl

one_covers : (p : Place) (slot : ℕ) → 1 ≤ one_at slot p → Covers p slot
one_covers p slot some = by (leb (slot_of p.ib) slot) (ltb slot (slot_of p.ib + slots_in p)) refl refl some
  where
    by : (a b : Bool) → leb (slot_of p.ib) slot ≡ a → ltb slot (slot_of p.ib + slots_in p) ≡ b → 1 ≤ (if a && b then 1 else 0) → Covers p slot
    by true true e f h = record { begins = leb-true (slot_of p.ib) slot e; ends = ltb-true slot (slot_of p.ib + slots_in p) f }
    by true false e f h = absurd (omega (arith, h))
    by false b e f h = absurd (omega (arith, h))

at_most_one : (slot : ℕ) (p : Place) → one_at slot p ≤ 1
at_most_one slot p = by (leb (slot_of p.ib) slot && ltb slot (slot_of p.ib + slots_in p))
  where
    by : (b : Bool) → (if b then 1 else 0) ≤ 1
    by true = omega arith
    by false = omega arith

pub some_tally : (ps : List Place) (slot : ℕ) → SomeCovers ps slot → 1 ≤ tally slot ps
unfolding SomeCovers
some_tally [] slot covers = absurd covers
some_tally (p ∷ ps) slot (inl covers) = omega (arith, covers_one p slot covers)
some_tally (p ∷ ps) slot (inr covers) = let h = some_tally ps slot covers in omega (arith, h)

pub tally_some : (ps : List Place) (slot : ℕ) → 1 ≤ tally slot ps → SomeCovers ps slot
unfolding SomeCovers
tally_some [] slot h = absurd (omega (arith, h))
tally_some (p ∷ ps) slot h = by (tally_some ps slot) (one_at slot p) refl
  where
    by : (1 ≤ tally slot ps → SomeCovers ps slot) → (n : ℕ) → one_at slot p ≡ n → Covers p slot ⊎ SomeCovers ps slot
    by rest zero e = inr (rest (omega (arith, h, e)))
    by rest (suc n) e = inl (one_covers p slot (omega (arith, e)))

twice_tally : (ps : List Place) (slot : ℕ) → IsTwice ps slot → 2 ≤ tally slot ps
unfolding IsTwice
twice_tally [] slot twice = absurd twice
twice_tally (p ∷ ps) slot (inl both) = omega (arith, covers_one p slot both.0, some_tally ps slot both.1)
twice_tally (p ∷ ps) slot (inr twice) = let h = twice_tally ps slot twice in omega (arith, h)

pub tally_twice : (ps : List Place) (slot : ℕ) → 2 ≤ tally slot ps → IsTwice ps slot
unfolding IsTwice
tally_twice [] slot h = absurd (omega (arith, h))
tally_twice (p ∷ ps) slot h = by (tally_twice ps slot) (one_at slot p) refl
  where
    by : (2 ≤ tally slot ps → IsTwice ps slot) → (n : ℕ) → one_at slot p ≡ n → (Covers p slot × SomeCovers ps slot) ⊎ IsTwice ps slot
    by rest zero e = inr (rest (omega (arith, h, e)))
    by rest (suc n) e = inl (one_covers p slot (omega (arith, e)), tally_some ps slot (omega (arith, h, at_most_one slot p)))

-- the same places in another order, or fewer
pub once_reordered : (xs ys : List Place) → ((slot : ℕ) → tally slot ys ≤ tally slot xs) → Once xs → Once ys
once_reordered xs ys fewer once slot twice = once slot (tally_twice xs slot (omega (arith, twice_tally ys slot twice, fewer slot)))
