-- Places in order meet neither one another nor a map page.
use Rattle.std.proofs.Common.{◌≡◌, ◌⊎◌, Bool, true, false, eqb, if◌then◌else◌, inl, inr, ℕ, zero, suc, ◌+◌, ◌*◌, ◌%◌, ◌<◌, ◌≤◌, List, [], ◌∷◌, ◌++◌, arith}
use Rattle.pst_base.specs.declared.places.Place.{Place}
use Rattle.alloc_map.specs.Covered.{IsTwice, Once}
use Rattle.alloc_map.specs.Ends.{region_end}
use Rattle.alloc_map.specs.Slots.{start_of}
use Rattle.alloc_map.specs.Standing.{Covers, SomeCovers, amap_places, fixed_slots}
use Rattle.copy_layout.specs.Order.{InOrder, IsFree}

-- a place of whole slots that meets no fixed page, from a place on and up to an end
pub record IsBeside (from end : ℕ) (p : Place) : Type 0 where
  pub behind : from ≤ p.ib
  pub before : p.ib + p.len ≤ end
  pub above : 0x4400 ≤ p.ib
  pub start : p.ib % 64 ≡ 0
  pub whole : p.len % 64 ≡ 0
  pub some : 1 ≤ p.len
  pub free : IsFree p.len p.ib

-- places one behind the other
abbrev pub Ascends : ℕ → List Place → ℕ → Type 0
Ascends from [] end = from ≤ end
Ascends from (p ∷ ps) end = IsBeside from (p.ib + p.len) p × Ascends (p.ib + p.len) ps end

-- each has a length of whole slots
abbrev pub AreSized : List Place → Type 0
AreSized [] = Unit {0}
AreSized (p ∷ ps) = ((1 ≤ p.len) × (p.len % 64 ≡ 0)) × AreSized ps

-- a unit of which places begin at multiples, which are multiples of 64
abbrev pub IsUnit : ℕ → Type 0
IsUnit unit = (p : ℕ) → p % unit ≡ 0 → p % 64 ≡ 0

pub unit-block : IsUnit 64
unit-block p h = h

pub unit-page : IsUnit 512
unit-page p h = omega (arith, h)

pub order-ascends : (unit from end : ℕ) (ps : List Place) → IsUnit unit → 0x4400 ≤ from → AreSized ps → InOrder unit from ps end → Ascends from ps end
order-ascends unit from end [] by low sized order = omega (arith, order)
order-ascends unit from end (p ∷ ps) by low sized order =
    let may = order.0.holds in
    let behind = may.behind in
    let some = sized.0.0 in (
      record { behind = behind; before = omega arith; above = omega (arith, low, behind); start = by p.ib may.multiple; whole = sized.0.1; some = some; free = may.free },
      order-ascends unit (p.ib + p.len) end ps by (omega (arith, low, behind)) sized.1 order.1,
    )

pub ascends-low : (from end : ℕ) (ps : List Place) → Ascends from ps end → from ≤ end
ascends-low from end [] h = h
ascends-low from end (p ∷ ps) h = let a = h.0.behind in let b = ascends-low (p.ib + p.len) end ps h.1 in omega (arith, a, b)

pub ascends-from : (low from end : ℕ) (ps : List Place) → low ≤ from → Ascends from ps end → Ascends low ps end
ascends-from low from end [] le h = omega (arith, le, h)
ascends-from low from end (p ∷ ps) le h =
    let a = h.0.behind in
    (record { behind = omega (arith, le, a); before = h.0.before; above = h.0.above; start = h.0.start; whole = h.0.whole; some = h.0.some; free = h.0.free }, h.1)

pub ascends-join : (from mid end : ℕ) (ps qs : List Place) → Ascends from ps mid → Ascends mid qs end → Ascends from (ps ++ qs) end
ascends-join from mid end [] qs h k = ascends-from from mid end qs h k
ascends-join from mid end (p ∷ ps) qs h k = (h.0, ascends-join (p.ib + p.len) mid end ps qs h.1 k)

-- what one of them covers begins behind `from`
covers-behind : (from end : ℕ) (ps : List Place) (slot : ℕ) → Ascends from ps end → SomeCovers ps slot → from ≤ start_of slot + 63
unfolding SomeCovers
covers-behind from end [] slot h c = absurd c
covers-behind from end (p ∷ ps) slot h (inl c) =
    let a = h.0.behind in let b = c.begins in let d = h.0.above in omega (arith, a, b, d)
covers-behind from end (p ∷ ps) slot h (inr c) =
    let a = covers-behind (p.ib + p.len) end ps slot h.1 c in let b = h.0.behind in omega (arith, a, b)

pub fixed-low : (r : ℕ) → 8 ≤ fixed_slots r
fixed-low r = by (eqb (r % 496) 128) (eqb (r % 8) 0)
  where
    by : (a b : Bool) → 8 ≤ (if a then 24 else (if b then 16 else 8))
    by true b = omega arith
    by false true = omega arith
    by false false = omega arith

-- a place that meets no fixed page covers no slot of a map page
covers-map : (p : Place) (from end n slot : ℕ) → IsBeside from end p → Covers p slot → SomeCovers (amap_places n) slot → ⊥
unfolding SomeCovers amap_places
covers-map p from end zero slot is one two = two
covers-map p from end (suc r) slot is one (inl two) = by (is.free r)
  where
    by : (p.ib + p.len ≤ region_end r) ⊎ (region_end r + 64 * fixed_slots r ≤ p.ib) → ⊥
    by (inl before) =
        let a = one.begins in let b = one.ends in let c = two.begins in let d = two.ends in let e = is.above in let f = is.start in let g = is.whole in
        absurd (omega (arith, before, a, b, c, d, e, f, g))
    by (inr behind) =
        let a = one.begins in let c = two.begins in let d = two.ends in let e = is.above in let f = is.start in let g = fixed-low r in
        absurd (omega (arith, behind, a, c, d, e, f, g))
covers-map p from end (suc r) slot is one (inr two) = covers-map p from end r slot is one two

-- map pages meet nowhere
maps-below : (n slot : ℕ) → SomeCovers (amap_places n) slot → slot < 3968 * n
unfolding SomeCovers amap_places
maps-below zero slot c = absurd c
maps-below (suc r) slot (inl c) = let a = c.begins in let b = c.ends in omega (arith, a, b)
maps-below (suc r) slot (inr c) = let a = maps-below r slot c in omega (arith, a)

maps-once : (n : ℕ) → Once (amap_places n)
unfolding IsTwice amap_places
maps-once zero slot twice = twice
maps-once (suc r) slot (inl both) = let a = both.0.begins in let b = maps-below r slot both.1 in absurd (omega (arith, a, b))
maps-once (suc r) slot (inr twice) = maps-once r slot twice

some-split : (xs ys : List Place) (slot : ℕ) → SomeCovers (xs ++ ys) slot → SomeCovers xs slot ⊎ SomeCovers ys slot
unfolding SomeCovers
some-split [] ys slot c = inr c
some-split (x ∷ xs) ys slot (inl c) = inl (inl c)
some-split (x ∷ xs) ys slot (inr c) = by (some-split xs ys slot c)
  where
    by : SomeCovers xs slot ⊎ SomeCovers ys slot → (Covers x slot ⊎ SomeCovers xs slot) ⊎ SomeCovers ys slot
    by (inl a) = inl (inr a)
    by (inr b) = inr b

-- no slot is covered twice by places in order and by map pages
pub order-once : (from end n : ℕ) (ps : List Place) → Ascends from ps end → Once (ps ++ amap_places n)
unfolding IsTwice
order-once from end n [] h slot twice = maps-once n slot twice
order-once from end n (p ∷ ps) h slot (inr twice) = order-once (p.ib + p.len) end n ps h.1 slot twice
order-once from end n (p ∷ ps) h slot (inl both) = by (some-split ps (amap_places n) slot both.1)
  where
    by : SomeCovers ps slot ⊎ SomeCovers (amap_places n) slot → ⊥
    by (inl one) =
        let a = covers-behind (p.ib + p.len) end ps slot h.1 one in
        let b = both.0.begins in let c = both.0.ends in let d = h.0.above in let e = h.0.start in let f = h.0.whole in
        absurd (omega (arith, a, b, c, d, e, f))
    by (inr one) = covers-map p from (p.ib + p.len) n slot h.0 both.0 one
