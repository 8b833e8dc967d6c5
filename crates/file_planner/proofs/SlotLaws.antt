-- Slots of places, counted; those of the fixed pages; and what is left of places behind them.
use Rattle.std.proofs.Common.{Bool, true, false, ◌≡◌, ◌∙◌, ◌⊎◌, inl, inr, ℕ, zero, suc, ◌+◌, ◌-◌, ◌*◌, ◌/◌, ◌%◌, ◌<◌, ◌≤◌, max, leb, ltb, ◌&&◌, List, [], ◌∷◌, refl, sym, subst, arith, if◌then◌else◌}
use Rattle.std.proofs.lemmas.Bool.{cases_lt, leb-true, le-leb, lt-ltb, ltb-true}
use Rattle.pst_base.specs.declared.places.Place.{Place}
use Rattle.alloc_map.specs.Slots.{slot_of, slots_in}
use Rattle.alloc_map.specs.Standing.{Covers, SomeCovers, fixed_place, fixed_places, fixed_slots, amap_places}
use Rattle.alloc_map.specs.Covered.{IsTwice, Once}
use Rattle.alloc_map.specs.Tally.{one_at, tally}
use Rattle.alloc_map.proofs.CoverLaws.{fixed_slots_small, fixed_slots_some}
use Rattle.alloc_map.proofs.TallyLaws.{some_tally, tally_some, tally_twice}
use Rattle.plan_drawing.specs.Freed.{all_behind, behind_fixed}

-- ---- one place

pub covers-one : (p : Place) (slot : ℕ) → Covers p slot → one_at slot p ≡ 1
covers-one p slot covers = rw (le-leb (slot_of p.ib) slot covers.begins, lt-ltb slot (slot_of p.ib + slots_in p) covers.ends) refl

pub one-covers : (p : Place) (slot : ℕ) → 1 ≤ one_at slot p → Covers p slot
one-covers p slot some = by (leb (slot_of p.ib) slot) (ltb slot (slot_of p.ib + slots_in p)) refl refl some
  where
    by : (a b : Bool) → leb (slot_of p.ib) slot ≡ a → ltb slot (slot_of p.ib + slots_in p) ≡ b → 1 ≤ (if a && b then 1 else 0) → Covers p slot
    by true true e f h = record { begins = leb-true (slot_of p.ib) slot e; ends = ltb-true slot (slot_of p.ib + slots_in p) f }
    by true false e f h = absurd (omega (arith, h))
    by false b e f h = absurd (omega (arith, h))

pub covers-none : (p : Place) (slot : ℕ) → (Covers p slot → ⊥) → one_at slot p ≡ 0
covers-none p slot none = elim (cases_lt 0 (one_at slot p)) [ inl some ↦ absurd (none (one-covers p slot (omega (arith, some)))) | inr few ↦ omega (arith, few) ]

-- the same of two places that cover the same
pub same-one : (p q : Place) (slot : ℕ) → (Covers p slot → Covers q slot) → (Covers q slot → Covers p slot) → one_at slot p ≡ one_at slot q
same-one p q slot on back = elim (cases_lt 0 (one_at slot q)) [
  | inl some ↦ covers-one p slot (back (one-covers q slot (omega (arith, some)))) ∙ sym (covers-one q slot (one-covers q slot (omega (arith, some))))
  | inr few ↦
      let zero-q : one_at slot q ≡ 0 = omega (arith, few) in
      covers-none p slot (λ c. let one = covers-one q slot (on c) in absurd (omega (arith, one, zero-q))) ∙ sym zero-q
]

-- ---- lists of places

twice-tally : (ps : List Place) (slot : ℕ) → IsTwice ps slot → 2 ≤ tally slot ps
unfolding IsTwice
twice-tally [] slot twice = absurd twice
twice-tally (p ∷ ps) slot (inl both) = omega (arith, covers-one p slot both.0, some_tally ps slot both.1)
twice-tally (p ∷ ps) slot (inr twice) = let h = twice-tally ps slot twice in omega (arith, h)

pub once-of : (ps : List Place) → ((slot : ℕ) → tally slot ps ≤ 1) → Once ps
once-of ps few slot twice = let a = twice-tally ps slot twice in let b = few slot in absurd (omega (arith, a, b))

pub tally-of : (ps : List Place) → Once ps → (slot : ℕ) → tally slot ps ≤ 1
tally-of ps once slot = elim (cases_lt 1 (tally slot ps)) [ inl a ↦ absurd (once slot (tally_twice ps slot (omega (arith, a)))) | inr a ↦ a ]

pub tally-none : (ps : List Place) (slot : ℕ) → (SomeCovers ps slot → ⊥) → tally slot ps ≡ 0
tally-none ps slot none = elim (cases_lt 0 (tally slot ps)) [ inl some ↦ absurd (none (tally_some ps slot (omega (arith, some)))) | inr few ↦ omega (arith, few) ]

-- ---- fixed pages

-- a slot of a fixed page of its region
abbrev pub IsFixed : ℕ → Type 0
IsFixed slot = slot < 3968 * (slot / 3968) + fixed_slots (slot / 3968)

region-of : (r slot : ℕ) → 3968 * r ≤ slot → slot < 3968 * r + 3968 → slot / 3968 ≡ r
region-of r slot low high = omega (arith, low, high)

pub fixed-here : (r slot : ℕ) → 3968 * r ≤ slot → slot < 3968 * r + fixed_slots r → IsFixed slot
fixed-here r slot low high =
    let small = fixed_slots_small r in
    let same : slot / 3968 ≡ r = region-of r slot low (omega (arith, high, small)) in
    let P : ℕ → Type 0 = λ k. slot < 3968 * k + fixed_slots k in
    subst P (sym same) high

pub covers-fixed : (n slot : ℕ) → SomeCovers (fixed_places n) slot → IsFixed slot × (slot < 3968 * n)
unfolding SomeCovers fixed_places
covers-fixed zero slot covers = absurd covers
covers-fixed (suc r) slot (inl c) =
    let small = fixed_slots_small r in
    let begins = c.begins in
    let ends = c.ends in
    (fixed-here r slot (omega (arith, begins)) (omega (arith, ends)), omega (arith, ends, small))
covers-fixed (suc r) slot (inr c) = let rest = covers-fixed r slot c in let lt = rest.1 in (rest.0, omega (arith, lt))

pub fixed-covers : (n slot : ℕ) → IsFixed slot → slot < 3968 * n → SomeCovers (fixed_places n) slot
unfolding SomeCovers fixed_places
fixed-covers zero slot fixed lt = absurd (omega (arith, lt))
fixed-covers (suc r) slot fixed lt = elim (cases_lt slot (3968 * r)) [
  | inl below ↦ inr (fixed-covers r slot fixed below)
  | inr above ↦
      let same : slot / 3968 ≡ r = region-of r slot above (omega (arith, lt)) in
      let P : ℕ → Type 0 = λ k. slot < 3968 * k + fixed_slots k in
      let here : slot < 3968 * r + fixed_slots r = subst P same fixed in
      inl (record { begins = omega (arith, above); ends = omega (arith, here) })
]

pub fixed-once : (n slot : ℕ) → tally slot (fixed_places n) ≤ 1
unfolding fixed_places
fixed-once zero slot = omega arith
fixed-once (suc r) slot = elim (cases_lt 0 (one_at slot (fixed_place r))) [
  | inl some ↦
      let c = one-covers (fixed_place r) slot (omega (arith, some)) in
      let one = covers-one (fixed_place r) slot c in
      let begins = c.begins in
      let rest = tally-none (fixed_places r) slot (λ covers. let lt = (covers-fixed r slot covers).1 in absurd (omega (arith, lt, begins))) in
      omega (arith, one, rest)
  | inr none ↦ let rest = fixed-once r slot in omega (arith, none, rest)
]

-- an AMap page is a fixed page, or the first of several
pub amap-fixed : (n slot : ℕ) → SomeCovers (amap_places n) slot → SomeCovers (fixed_places n) slot
unfolding SomeCovers amap_places fixed_places
amap-fixed zero slot c = c
amap-fixed (suc r) slot (inl c) = let some = fixed_slots_some r in let ends = c.ends in inl (record { begins = c.begins; ends = omega (arith, ends, some) })
amap-fixed (suc r) slot (inr c) = inr (amap-fixed r slot c)

-- ---- behind fixed pages

-- A place of whole slots that ends in the region in which it begins, and in one of so many regions.
pub record IsTame (p : Place) : Type 0 where
  pub above : 0x4400 ≤ p.ib
  pub start : p.ib % 64 ≡ 0
  pub whole : p.len % 64 ≡ 0
  pub one : slot_of p.ib + slots_in p ≤ 3968 * (slot_of p.ib / 3968) + 3968
  pub few : slot_of p.ib / 3968 < 8192

-- each place does
abbrev pub AllTame : List Place → Type 0
AllTame [] = Unit {0}
AllTame (p ∷ ps) = IsTame p × AllTame ps

-- as numbers: a place of some slots from a on, and where the fixed pages end
behind-in : (ib len end slot : ℕ) → 0x4400 ≤ ib → ib % 64 ≡ 0 → len % 64 ≡ 0
    → (max ib (0x4400 + 64 * end) - 0x4400) / 64 ≤ slot → slot < (max ib (0x4400 + 64 * end) - 0x4400) / 64 + ((ib + len) - max ib (0x4400 + 64 * end)) / 64
    → (end ≤ slot) × ((ib - 0x4400) / 64 ≤ slot) × (slot < (ib - 0x4400) / 64 + len / 64)
behind-in ib len end slot above start whole begins ends = (omega (arith, begins), omega (arith, begins), omega (arith, above, start, whole, begins, ends))

behind-out : (ib len end slot : ℕ) → 0x4400 ≤ ib → ib % 64 ≡ 0 → len % 64 ≡ 0 → end ≤ slot → (ib - 0x4400) / 64 ≤ slot → slot < (ib - 0x4400) / 64 + len / 64
    → ((max ib (0x4400 + 64 * end) - 0x4400) / 64 ≤ slot) × (slot < (max ib (0x4400 + 64 * end) - 0x4400) / 64 + ((ib + len) - max ib (0x4400 + 64 * end)) / 64)
behind-out ib len end slot above start whole far begins ends = (omega (arith, above, start, far, begins), omega (arith, above, start, whole, far, begins, ends))

pub behind-fixed : (p : Place) (slot : ℕ) → IsTame p → IsFixed slot → one_at slot (behind_fixed p) ≡ 0
behind-fixed p slot tame fixed = covers-none (behind_fixed p) slot (λ c.
    let r : ℕ = slot_of p.ib / 3968 in
    let is = behind-in p.ib p.len (3968 * r + fixed_slots r) slot tame.above tame.start tame.whole c.begins c.ends in
    let far = is.0 in
    let high = is.2 in
    let low = is.1 in
    let one = tame.one in
    let same : slot / 3968 ≡ r = region-of r slot (omega (arith, far)) (omega (arith, high, one)) in
    let P : ℕ → Type 0 = λ k. slot < 3968 * k + fixed_slots k in
    let here : slot < 3968 * r + fixed_slots r = subst P same fixed in
    absurd (omega (arith, here, far)))

pub behind-free : (p : Place) (slot : ℕ) → IsTame p → (IsFixed slot → ⊥) → one_at slot (behind_fixed p) ≡ one_at slot p
behind-free p slot tame free =
    let r : ℕ = slot_of p.ib / 3968 in
    same-one (behind_fixed p) p slot
    (λ c. let is = behind-in p.ib p.len (3968 * r + fixed_slots r) slot tame.above tame.start tame.whole c.begins c.ends in record { begins = is.1; ends = is.2 })
    (λ c.
    let begins = c.begins in
    let far : 3968 * r + fixed_slots r ≤ slot = elim (cases_lt slot (3968 * r + fixed_slots r)) [ inl here ↦ absurd (free (fixed-here r slot (omega (arith, begins)) here)) | inr past ↦ past ] in
    let is = behind-out p.ib p.len (3968 * r + fixed_slots r) slot tame.above tame.start tame.whole far c.begins c.ends in
    record { begins = is.0; ends = is.1 })

pub all-fixed : (ps : List Place) (slot : ℕ) → AllTame ps → IsFixed slot → tally slot (all_behind ps) ≡ 0
all-fixed [] slot tame fixed = refl
all-fixed (p ∷ ps) slot tame fixed = let one = behind-fixed p slot tame.0 fixed in let rest = all-fixed ps slot tame.1 fixed in omega (arith, one, rest)

pub all-free : (ps : List Place) (slot : ℕ) → AllTame ps → (IsFixed slot → ⊥) → tally slot (all_behind ps) ≡ tally slot ps
all-free [] slot tame free = refl
all-free (p ∷ ps) slot tame free = let one = behind-free p slot tame.0 free in let rest = all-free ps slot tame.1 free in omega (arith, one, rest)

-- a slot is fixed or not
pub fixed-cases : (slot : ℕ) → IsFixed slot ⊎ (IsFixed slot → ⊥)
fixed-cases slot = elim (cases_lt slot (3968 * (slot / 3968) + fixed_slots (slot / 3968))) [ inl here ↦ inl here | inr past ↦ inr (λ here. absurd (omega (arith, here, past))) ]
