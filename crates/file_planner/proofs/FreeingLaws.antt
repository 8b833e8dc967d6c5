-- What is freed in the union, slot by slot and place by place.
use Rattle.std.proofs.Common.{Bool, true, false, ◌≡◌, ◌∙◌, inl, inr, ℕ, ◌+◌, ◌-◌, ◌*◌, ◌/◌, ◌%◌, ◌==◌, ◌<◌, ◌≤◌, ltb, List, [], ◌∷◌, length, get_or, map, set, take, drop, Some, if◌then◌else◌, refl, sym, ap, subst, arith, ◌||◌}
use Rattle.std.specs.List.{range_with_len}
use Rattle.std.specs.Int.{bit_at}
use Rattle.std.proofs.lemmas.Bool.{cases_eq, cases_lt, le-ltb, lt-ltb}
use Rattle.std.proofs.lemmas.List.{get_or-drop, get_or-take, get_or_past, get_or-set_other, get_or-set_same, length-take-le}
use Rattle.std.proofs.lemmas.List.FromFn.{get_or-map-range_with_len, length-map-range_with_len}
use Rattle.pst_base.specs.declared.places.Place.{Place}
use Rattle.page_frame.proofs.PageLaws.{passed-reading}
use Rattle.alloc_map.specs.Maps.{IsMapPage, map_place}
use Rattle.alloc_map.specs.Packed.{packed_bit}
use Rattle.alloc_map.specs.Slots.{AreAll, Becomes, IsLaid, is_used, regions_of, slot_of, slots_in}
use Rattle.alloc_map.specs.Standing.{SomeCovers}
use Rattle.alloc_map.specs.Taken.{Taken}
use Rattle.alloc_map.specs.Tally.{tally}
use Rattle.alloc_map.proofs.BitLaws.{bits_of-at}
use Rattle.alloc_map.proofs.TakenLaws.{taken-all, taken-back, taken-first, taken-more, taken-none}
use Rattle.alloc_map.proofs.TallyLaws.{some_tally, tally_some}
use Rattle.pst_commit.specs.declared.store.Pin.{Pin}
use Rattle.pst_commit.specs.Held.{IsWithHeld, is_held, opened_of}
use Rattle.file_planner.specs.Freeing.{BecomesEach, IsLeft}
use Rattle.file_planner.specs.Holding.{AreLong, IsHolding}
use Rattle.file_planner.proofs.HoldingLaws.{no-none, or-none}
use Rattle.file_planner.proofs.OverLaws.{or-first, used-low}

-- ---- a run of slots

-- the used slots without a run
abbrev pub without : List Bool → ℕ → ℕ → List Bool
without used from n = map (λ s. if ltb s from then is_used used s else (if ltb s (from + n) then false else is_used used s)) (range_with_len 0 (length used))

pub freed-run : (used : List Bool) (from n : ℕ) → Becomes used (without used from n) from n false
freed-run used from n = record {
  size = size;
  inside = λ s low high. elim (cases_lt s (length used)) [
    | inl lt ↦ at s lt ∙ ap (λ (b : Bool). if b then is_used used s else (if ltb s (from + n) then false else is_used used s)) (le-ltb s from low) ∙ ap (λ (b : Bool). if b then false else is_used used s) (lt-ltb s (from + n) high)
    | inr past ↦ behind s past
  ];
  below = λ s low. elim (cases_lt s (length used)) [
    | inl lt ↦ at s lt ∙ ap (λ (b : Bool). if b then is_used used s else (if ltb s (from + n) then false else is_used used s)) (lt-ltb s from low)
    | inr past ↦ behind s past ∙ sym (get_or_past used s false past)
  ];
  above = λ s high. elim (cases_lt s (length used)) [
    | inl lt ↦ at s lt ∙ ap (λ (b : Bool). if b then is_used used s else (if ltb s (from + n) then false else is_used used s)) (le-ltb s from (omega (arith, high))) ∙ ap (λ (b : Bool). if b then false else is_used used s) (le-ltb s (from + n) high)
    | inr past ↦ behind s past ∙ sym (get_or_past used s false past)
  ];
}
  where
    size : length (without used from n) ≡ length used
    size = length-map-range_with_len (λ s. if ltb s from then is_used used s else (if ltb s (from + n) then false else is_used used s)) 0 (length used)

    at : (s : ℕ) → s < length used → is_used (without used from n) s ≡ (if ltb s from then is_used used s else (if ltb s (from + n) then false else is_used used s))
    at s lt = get_or-map-range_with_len (λ s. if ltb s from then is_used used s else (if ltb s (from + n) then false else is_used used s)) 0 (length used) s s false lt (omega arith)

    behind : (s : ℕ) → length used ≤ s → is_used (without used from n) s ≡ false
    behind s past = get_or_past (without used from n) s false (omega (arith, past, size))

-- what is freed was the other way round
back : {old new : List Bool} {from n : ℕ} → AreAll old from n true → Becomes old new from n false → Becomes new old from n true
back {old} {new} {from} {n} used becomes = record { size = sym becomes.size; inside = used; below = λ s lt. sym (becomes.below s lt); above = λ s le. sym (becomes.above s le) }

-- a place of used slots is released
place-released : (used new : List Bool) (regions : ℕ) (p : Place) → length used ≡ 3968 * regions → 0x4400 ≤ p.ib → p.ib % 64 ≡ 0 → p.len % 64 ≡ 0 → 1 ≤ slots_in p → AreAll used (slot_of p.ib) (slots_in p) true
    → ((after : List Bool) → Taken after used (p ∷ []) → new ≡ after) → Becomes used new (slot_of p.ib) (slots_in p) false
place-released used new regions p whole above start len some all gives =
    let after : List Bool = without used (slot_of p.ib) (slots_in p) in
    let freed = freed-run used (slot_of p.ib) (slots_in p) in
    let last : slot_of p.ib + slots_in p - 1 < length used = used-low used (slot_of p.ib + slots_in p - 1) (all (slot_of p.ib + slots_in p - 1) (omega (arith, some)) (omega (arith, some))) in
    let size = freed.size in
    let laid : IsLaid (regions_of after) p = record { above = above; start = start; whole = len; within = omega (arith, last, size, whole, above, start, len, some) } in
    let taken = taken-more after after used p [] (taken-none after) laid freed.inside (back all freed) in
    subst (λ (l : List Bool). Becomes used l (slot_of p.ib) (slots_in p) false) (sym (gives after taken)) freed

-- and so is a run of them
pub run-released : (used new : List Bool) (regions from n : ℕ) (p : Place) → p.ib ≡ 0x4400 + 64 * from → p.len ≡ 64 * n → length used ≡ 3968 * regions → 1 ≤ n
    → ((after : List Bool) → Taken after used (p ∷ []) → new ≡ after) → AreAll used from n true → Becomes used new from n false
run-released used new regions from n p ib len whole some gives all =
    let at : slot_of p.ib ≡ from = omega (arith, ib) in
    let many : slots_in p ≡ n = omega (arith, len) in
    let here : AreAll used (slot_of p.ib) (slots_in p) true = λ s low high. all s (omega (arith, low, at)) (omega (arith, high, at, many)) in
    let becomes = place-released used new regions p whole (omega (arith, ib)) (omega (arith, ib)) (omega (arith, len)) (omega (arith, many, some)) here gives in
    subst (λ (k : ℕ). Becomes used new from k false) many (subst (λ (k : ℕ). Becomes used new k (slots_in p) false) at becomes)

-- ---- place by place

-- the first place that is to be freed is used in the union
pub left-used : (after all : List Bool) (opened : List (ℕ × List Bool)) (p : Place) (ps : List Place) → IsLeft after all opened (p ∷ ps) → AreAll all (slot_of p.ib) (slots_in p) true
left-used after all opened p ps is = λ s low high. is.with_held.either s ∙ or-first (is_used is.mid s) (is_held opened s) ((taken-first after is.mid p ps is.left).1 s low high)

-- once it was freed but for what pins hold, the rest is left
pub left-rest : (after all now : List Bool) (opened : List (ℕ × List Bool)) (p : Place) (ps : List Place) → IsLeft after all opened (p ∷ ps) → BecomesEach all now (slot_of p.ib) (slots_in p) (is_held opened) → IsLeft after now opened ps
left-rest after all now opened p ps is each =
    let from : ℕ = slot_of p.ib in
    let n : ℕ = slots_in p in
    let mid : List Bool = without is.mid from n in
    let freed : Becomes is.mid mid from n false = freed-run is.mid from n in
    let same : (s : ℕ) → is_used now s ≡ is_used all s → is_used mid s ≡ is_used is.mid s → is_used now s ≡ (is_used mid s || is_held opened s) = λ s e f. e ∙ is.with_held.either s ∙ ap (λ (b : Bool). b || is_held opened s) (sym f) in
    record {
      mid = mid;
      left = taken-back after is.mid mid p ps is.left freed;
      with_held = record {
        size = each.size ∙ is.with_held.size ∙ sym freed.size;
        either = λ s. elim (cases_lt s from) [
          | inl low ↦ same s (each.below s low) (freed.below s low)
          | inr begins ↦ elim (cases_lt s (from + n)) [
            | inl ends ↦ each.inside s begins ends ∙ ap (λ (b : Bool). b || is_held opened s) (sym (freed.inside s begins ends))
            | inr high ↦ same s (each.above s high) (freed.above s high)
          ]
        ];
      };
    }

-- where nothing is left the union is that of what is used
pub left-none : (after all : List Bool) (opened : List (ℕ × List Bool)) → IsLeft after all opened [] → IsWithHeld after opened all
left-none after all opened is = subst (λ (u : List Bool). IsWithHeld u opened all) (taken-all after is.mid is.left) is.with_held

-- what is taken in the file and in the union leaves what is freed
pub left-first : (own mid after all over : List Bool) (opened : List (ℕ × List Bool)) (taken freed : List Place) → IsWithHeld own opened all → Taken own mid taken → Taken all over taken → Taken after mid freed → IsLeft after over opened freed
left-first own mid after all over opened taken freed held takes takes_over frees = record {
  mid = mid;
  left = frees;
  with_held = record {
    size = takes_over.size ∙ held.size ∙ sym takes.size;
    either = λ s. elim (cases_lt 0 (tally s taken)) [
      | inl some ↦ let c = tally_some taken s some in (takes_over.covered s c).0 ∙ ap (λ (b : Bool). b || is_held opened s) (sym (takes.covered s c).0)
      | inr few ↦
          let none : SomeCovers taken s → ⊥ = λ c. let a = some_tally taken s c in absurd (omega (arith, few, a)) in
          takes_over.others s none ∙ held.either s ∙ ap (λ (b : Bool). b || is_held opened s) (sym (takes.others s none))
    ];
  };
}

-- ---- the bits of map pages

-- a map page shows the slots of its region
pub map-bit : (used : List Bool) (r : ℕ) (page : List ℕ) (at slot : ℕ) → IsMapPage used r page → at < 3968 → slot ≡ 3968 * r + at → packed_bit page at ≡ is_used used slot
unfolding packed_bit
map-bit used r page at slot is lt slot-is =
    let content : take 496 page ≡ is.body = (passed-reading 0x84 (map_place r) page is.body is.sealed.1).1 in
    let size : length is.body ≡ 496 = ap length (sym content) ∙ length-take-le 496 page (omega (arith, is.sealed.0)) in
    ap (λ (x : ℕ). bit_at x (7 - at % 8) == 1) (sym (get_or-take 496 page (at / 8) 0 (omega (arith, lt))) ∙ ap (λ (l : List ℕ). get_or l (at / 8) 0) content)
    ∙ sym (bits_of-at is.body at (omega (arith, size, lt)))
    ∙ ap (λ (u : List Bool). is_used u at) is.bits
    ∙ get_or-take 3968 (drop (3968 * r) used) at false lt
    ∙ get_or-drop (3968 * r) used at false
    ∙ ap (is_used used) (sym slot-is)

-- ---- marks

or-true : (a : Bool) → true ≡ (a || true)
or-true true = refl
or-true false = refl

below-last : (j k : ℕ) → j < k + 1 → (j ≡ k → ⊥) → j < k
below-last j k lt other = omega arith

-- what is marked of the first slots, over what was marked before
abbrev pub MarksTo : List Bool → List Bool → List Bool → ℕ → ℕ → Type 0
MarksTo old marks used from k = (j : ℕ) → j < k → get_or marks j false ≡ (get_or old j false || is_used used (from + j))

abbrev pub MarksFrom : List Bool → List Bool → ℕ → Type 0
MarksFrom old marks k = (j : ℕ) → k ≤ j → get_or marks j false ≡ get_or old j false

-- one slot more, which is used
pub mark-more : (old marks used : List Bool) (from k : ℕ) → MarksTo old marks used from k → k < length marks → is_used used (from + k) ≡ true → MarksTo old (set marks k true) used from (k + 1)
mark-more old marks used from k passed within on j lt = elim (cases_eq j k) [
  | inl e ↦
      ap (λ (i : ℕ). get_or (set marks k true) i false) e ∙ get_or-set_same marks k true false within ∙ or-true (get_or old j false)
      ∙ ap (λ (b : Bool). get_or old j false || b) (sym on ∙ ap (λ (i : ℕ). is_used used (from + i)) (sym e))
  | inr other ↦ get_or-set_other marks k j true false other ∙ passed j (below-last j k lt other)
]

pub mark-behind : (old marks : List Bool) (k : ℕ) → MarksFrom old marks k → MarksFrom old (set marks k true) (k + 1)
mark-behind old marks k ahead j le = get_or-set_other marks k j true false (λ e. omega (arith, le, e)) ∙ ahead j (omega (arith, le))

-- one that isn't
pub mark-none : (old marks used : List Bool) (from k : ℕ) → MarksTo old marks used from k → MarksFrom old marks k → is_used used (from + k) ≡ false → MarksTo old marks used from (k + 1)
mark-none old marks used from k passed ahead off j lt = elim (cases_eq j k) [
  | inl e ↦
      ahead j (omega (arith, e)) ∙ sym (or-none (get_or old j false))
      ∙ ap (λ (b : Bool). get_or old j false || b) (sym off ∙ ap (λ (i : ℕ). is_used used (from + i)) (sym e))
  | inr other ↦ passed j (below-last j k lt other)
]

-- ---- a commit

-- a union that has followed is that of the slots that are used then
pub followed : (own mid after all now : List Bool) (pins : List (Pin × List Bool)) (taken freed : List Place) → IsHolding own pins (Some all) → Taken own mid taken → Taken after mid freed → IsWithHeld after (opened_of pins) now → IsHolding after pins (Some now)
followed own mid after all now pins taken freed is takes frees held = record {
  sized = record {
    each = subst (λ (n : ℕ). AreLong n pins) (sym takes.size ∙ frees.size) is.sized.each;
    whole = held.size;
    none = λ none. absurd (no-none now none);
  };
  with_held = held;
}
