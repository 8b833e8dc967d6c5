-- The slots before and after a commit.
use Rattle.std.proofs.Common.{true, false, ◌≡◌, ◌∙◌, inl, inr, ℕ, zero, suc, ◌+◌, ◌*◌, ◌/◌, ◌<◌, ◌≤◌, Bool, List, [], ◌∷◌, ◌++◌, length, sym, ap, subst, arith}
use Rattle.std.specs.List.{All}
use Rattle.std.proofs.lemmas.Bool.{cases_lt}
use Rattle.std.proofs.lemmas.List.Elements.{All-cons}
use Rattle.pst_base.specs.declared.places.Place.{Place}
use Rattle.alloc_map.specs.Slots.{IsLaid, regions_of, slot_of, slots_in}
use Rattle.alloc_map.specs.Standing.{Covers, SomeCovers, IsCovered, amap_place, amap_places, fixed_places, occupied, standing}
use Rattle.alloc_map.specs.Covered.{IsTwice, Once}
use Rattle.alloc_map.specs.Taken.{Taken}
use Rattle.alloc_map.specs.Tally.{one_at, tally}
use Rattle.alloc_map.proofs.CoverLaws.{covers_either, covers_first, covers_last, fixed_slots_small}
use Rattle.alloc_map.proofs.FreeLaws.{others-left}
use Rattle.alloc_map.proofs.TakenLaws.{covered-beside}
use Rattle.alloc_map.proofs.TallyLaws.{once_reordered, some_tally, tally_append, tally_some}
use Rattle.plan_drawing.specs.Freed.{all_behind, behind_fixed}
use Rattle.file_planner.proofs.SlotLaws.{AllTame, IsFixed, IsTame, all-fixed, all-free, amap-fixed, covers-fixed, covers-none, covers-one, fixed-cases, fixed-covers, fixed-once, once-of, one-covers, tally-none, tally-of}

-- ---- AMap pages

pub amap-here : (n r slot : ℕ) → r < n → Covers (amap_place r) slot → SomeCovers (amap_places n) slot
unfolding SomeCovers amap_places
amap-here zero r slot lt c = absurd (omega (arith, lt))
amap-here (suc n) r slot lt c = elim (cases_lt r n) [
  | inl below ↦ inr (amap-here n r slot below c)
  | inr above ↦ let same : n ≡ r = omega (arith, lt, above) in inl (subst (λ (k : ℕ). Covers (amap_place k) slot) (sym same) c)
]

pub amap-high : (n slot : ℕ) → SomeCovers (amap_places n) slot → slot < 3968 * n
unfolding SomeCovers amap_places
amap-high zero slot c = absurd c
amap-high (suc r) slot (inl c) = let ends = c.ends in omega (arith, ends)
amap-high (suc r) slot (inr c) = let lt = amap-high r slot c in omega (arith, lt)

pub amap-once : (n slot : ℕ) → tally slot (amap_places n) ≤ 1
unfolding amap_places
amap-once zero slot = omega arith
amap-once (suc r) slot = elim (cases_lt 0 (one_at slot (amap_place r))) [
  | inl some ↦
      let c = one-covers (amap_place r) slot (omega (arith, some)) in
      let one = covers-one (amap_place r) slot c in
      let begins = c.begins in
      let rest = tally-none (amap_places r) slot (λ covers. let lt = amap-high r slot covers in absurd (omega (arith, lt, begins))) in
      omega (arith, one, rest)
  | inr none ↦ let rest = amap-once r slot in omega (arith, none, rest)
]

amap-fewer : (m k slot : ℕ) → tally slot (amap_places m) ≤ tally slot (amap_places (m + k))
unfolding amap_places
amap-fewer m zero slot = let e : m + 0 ≡ m = omega arith in let a = ap (λ (n : ℕ). tally slot (amap_places n)) e in omega (arith, a)
amap-fewer m (suc k) slot =
    let e : m + suc k ≡ suc (m + k) = omega arith in
    let a : tally slot (amap_places (m + suc k)) ≡ one_at slot (amap_place (m + k)) + tally slot (amap_places (m + k)) = ap (λ (n : ℕ). tally slot (amap_places n)) e in
    let rest = amap-fewer m k slot in
    omega (arith, a, rest)

-- below the later ones there are no more
amap-same : (m k slot : ℕ) → slot < 3968 * m → tally slot (amap_places (m + k)) ≡ tally slot (amap_places m)
unfolding amap_places
amap-same m zero slot lt = let e : m + 0 ≡ m = omega arith in ap (λ (n : ℕ). tally slot (amap_places n)) e
amap-same m (suc k) slot lt =
    let e : m + suc k ≡ suc (m + k) = omega arith in
    let a : tally slot (amap_places (m + suc k)) ≡ one_at slot (amap_place (m + k)) + tally slot (amap_places (m + k)) = ap (λ (n : ℕ). tally slot (amap_places n)) e in
    let none = covers-none (amap_place (m + k)) slot (λ c. let begins = c.begins in absurd (omega (arith, begins, lt))) in
    let rest = amap-same m k slot lt in
    omega (arith, a, none, rest)

-- ---- what stands

-- places of some slots in the first regions
abbrev pub AllLaid : ℕ → List Place → Type 0
AllLaid n [] = Unit {0}
AllLaid n (p ∷ ps) = IsLaid n p × (64 ≤ p.len) × AllLaid n ps

laid-low : (n : ℕ) (ps : List Place) (slot : ℕ) → AllLaid n ps → SomeCovers ps slot → slot < 3968 * n
unfolding SomeCovers
laid-low n [] slot laid covers = absurd covers
laid-low n (p ∷ ps) slot laid (inl c) =
    let above = (laid.0).above in let start = (laid.0).start in let whole = (laid.0).whole in let within = (laid.0).within in let ends = c.ends in
    omega (arith, above, start, whole, within, ends)
laid-low n (p ∷ ps) slot laid (inr c) = laid-low n ps slot laid.2 c

-- no slot is covered twice beside the AMap pages of more regions than the places lie in
pub standing-more : (ps : List Place) (m k : ℕ) → AllLaid m ps → Once (standing ps m) → Once (standing ps (m + k))
standing-more ps m k laid once = once-of (standing ps (m + k)) (λ slot.
    let a = tally_append slot ps (amap_places m) in
    let b = tally_append slot ps (amap_places (m + k)) in
    let few = tally-of (standing ps m) once slot in
    elim (cases_lt slot (3968 * m)) [
      | inl low ↦ let same = amap-same m k slot low in omega (arith, a, b, few, same)
      | inr high ↦
          let none = tally-none ps slot (λ c. let lt = laid-low m ps slot laid c in absurd (omega (arith, lt, high))) in
          let most = amap-once (m + k) slot in
          omega (arith, b, none, most)
    ])

-- fewer regions
pub standing-fewer : (qs ps : List Place) (m k : ℕ) → Once (qs ++ standing ps (m + k)) → Once (qs ++ standing ps m)
standing-fewer qs ps m k once = once_reordered (qs ++ standing ps (m + k)) (qs ++ standing ps m) (λ slot.
    let a = tally_append slot qs (standing ps m) in
    let b = tally_append slot qs (standing ps (m + k)) in
    let c = tally_append slot ps (amap_places m) in
    let d = tally_append slot ps (amap_places (m + k)) in
    let e = amap-fewer m k slot in
    omega (arith, a, b, c, d, e)) once

once-rest : (p : Place) (ps : List Place) → Once (p ∷ ps) → Once ps
unfolding IsTwice
once-rest p ps once slot twice = once slot (inr twice)

once-first : (p : Place) (ps : List Place) → Once (p ∷ ps) → (slot : ℕ) → Covers p slot → SomeCovers ps slot → ⊥
unfolding IsTwice
once-first p ps once slot a b = once slot (inl (a, b))

-- places that meet no AMap page lie in one region each
pub tame-standing : (ps : List Place) → AllLaid 8192 ps → Once (standing ps 8192) → AllTame ps
tame-standing [] laid once = tt
tame-standing (p ∷ ps) laid once =
    let above = (laid.0).above in let start = (laid.0).start in let whole = (laid.0).whole in let within = (laid.0).within in let some = laid.1 in
    let r : ℕ = slot_of p.ib / 3968 in
    let few : r < 8192 = omega (arith, above, start, whole, within, some) in (
      record {
        above = above;
        start = start;
        whole = whole;
        one = elim (cases_lt (3968 * r + 3968) (slot_of p.ib + slots_in p)) [
          | inl past ↦
              let next : r + 1 < 8192 = omega (arith, above, start, whole, within, past) in
              let slot : ℕ = 3968 * (r + 1) in
              let own : Covers p slot = record { begins = omega arith; ends = omega (arith, past) } in
              let amap : Covers (amap_place (r + 1)) slot = record { begins = omega arith; ends = omega arith } in
              absurd (once-first p (standing ps 8192) once slot own (covers_last ps (amap_places 8192) slot (amap-here 8192 (r + 1) slot next amap)))
          | inr here ↦ here
        ];
        few = few;
      },
      tame-standing ps laid.2 (once-rest p (standing ps 8192) once),
    )

-- ---- places that are taken

true≢false : ◌≡◌ {A = Bool} true false → ⊥
true≢false h = cc

-- they have no slot of the others, nor of a fixed page
pub taken-free : (ps qs : List Place) (used mid : List Bool) → length used ≡ 3968 * 8192 → IsCovered (occupied ps 8192) used → Taken used mid qs → AllLaid 8192 qs → (slot : ℕ) → SomeCovers qs slot → SomeCovers (occupied ps 8192) slot → ⊥
taken-free ps qs used mid size covered taken laid slot own other =
    let low : slot < 3968 * 8192 = laid-low 8192 qs slot laid own in
    let on = (covered slot (subst (λ (n : ℕ). slot < n) (sym size) low)).1 other in
    true≢false (sym on ∙ (taken.covered slot own).1)

standing-occupied : (ps : List Place) (slot : ℕ) → SomeCovers (standing ps 8192) slot → SomeCovers (occupied ps 8192) slot
standing-occupied ps slot c = elim (covers_either ps (amap_places 8192) slot c) [
  | inl own ↦ covers_first ps (fixed_places 8192) slot own
  | inr amap ↦ covers_last ps (fixed_places 8192) slot (amap-fixed 8192 slot amap)
]

-- and beside all that stands no slot is covered twice
pub once-beside : (ps qs : List Place) (used mid : List Bool) → length used ≡ 3968 * 8192 → IsCovered (occupied ps 8192) used → Once (standing ps 8192) → Taken used mid qs → AllLaid 8192 qs → Once (qs ++ standing ps 8192)
once-beside ps qs used mid size covered once taken laid = once-of (qs ++ standing ps 8192) (λ slot.
    let a = tally_append slot qs (standing ps 8192) in
    let few = tally-of (standing ps 8192) once slot in
    let own = tally-of qs taken.once slot in
    elim (cases_lt 0 (tally slot qs)) [
      | inl some ↦
          let c = tally_some qs slot (omega (arith, some)) in
          let none = tally-none (standing ps 8192) slot (λ other. taken-free ps qs used mid size covered taken laid slot c (standing-occupied ps slot other)) in
          omega (arith, a, own, none)
      | inr none ↦ omega (arith, a, few, none)
    ])

-- ---- the slots after

behind-laid : (p : Place) → IsTame p → IsLaid 8192 (behind_fixed p)
behind-laid p tame =
    let small = fixed_slots_small (slot_of p.ib / 3968) in
    let above = tame.above in let start = tame.start in let whole = tame.whole in let one = tame.one in let few = tame.few in
    record {
      above = omega (arith, above);
      start = omega (arith, above, start);
      whole = omega (arith, above, start, whole);
      within = omega (arith, above, start, whole, one, few, small);
    }

all-laid : (ps : List Place) → AllTame ps → All (IsLaid 8192) (all_behind ps)
all-laid [] tame = λ k d lt. absurd (omega (arith, lt))
all-laid (p ∷ ps) tame = All-cons (IsLaid 8192) (behind_fixed p) (all_behind ps) (behind-laid p tame.0) (all-laid ps tame.1)

-- just the same slots are covered
covered-as : (xs ys : List Place) (used : List Bool) → ((slot : ℕ) → slot < length used → (1 ≤ tally slot xs → 1 ≤ tally slot ys) × (1 ≤ tally slot ys → 1 ≤ tally slot xs)) → IsCovered xs used → IsCovered ys used
covered-as xs ys used same covered slot below = (
  λ on. tally_some ys slot ((same slot below).0 (some_tally xs slot ((covered slot below).0 on))),
  λ c. (covered slot below).1 (tally_some xs slot ((same slot below).1 (some_tally ys slot c))),
)

some-fixed : (slot n : ℕ) → n ≡ 3968 * 8192 → slot < n → IsFixed slot → 1 ≤ tally slot (fixed_places 8192)
some-fixed slot n size lt fixed = some_tally (fixed_places 8192) slot (fixed-covers 8192 slot fixed (omega (arith, size, lt)))

no-fixed : (slot : ℕ) → (IsFixed slot → ⊥) → tally slot (fixed_places 8192) ≡ 0
no-fixed slot free = tally-none (fixed_places 8192) slot (λ c. free (covers-fixed 8192 slot c).0)

-- with what is behind fixed pages in place of the places
behind-covered : (ps new : List Place) (used : List Bool) → length used ≡ 3968 * 8192 → AllTame ps → IsCovered (new ++ occupied ps 8192) used → IsCovered ((all_behind ps ++ new) ++ fixed_places 8192) used
behind-covered ps new used size tame covered = covered-as (new ++ occupied ps 8192) ((all_behind ps ++ new) ++ fixed_places 8192) used (λ slot below.
    let a = tally_append slot (all_behind ps ++ new) (fixed_places 8192) in
    let b = tally_append slot (all_behind ps) new in
    let c = tally_append slot new (occupied ps 8192) in
    let d = tally_append slot ps (fixed_places 8192) in
    elim (fixed-cases slot) [
      | inl fixed ↦ let x = some-fixed slot (length used) size below fixed in (λ some. omega (arith, a, b, x), λ some. omega (arith, c, d, x))
      | inr free ↦ let e = all-free ps slot tame free in (λ some. omega (arith, a, b, c, d, e, some), λ some. omega (arith, a, b, c, d, e, some))
    ]) covered

covered-behind : (qs : List Place) (used : List Bool) → length used ≡ 3968 * 8192 → AllTame qs → IsCovered (all_behind qs ++ fixed_places 8192) used → IsCovered (occupied qs 8192) used
covered-behind qs used size tame covered = covered-as (all_behind qs ++ fixed_places 8192) (occupied qs 8192) used (λ slot below.
    let a = tally_append slot (all_behind qs) (fixed_places 8192) in
    let b = tally_append slot qs (fixed_places 8192) in
    elim (fixed-cases slot) [
      | inl fixed ↦ let x = some-fixed slot (length used) size below fixed in (λ some. omega (arith, b, x), λ some. omega (arith, a, x))
      | inr free ↦ let e = all-free qs slot tame free in (λ some. omega (arith, a, b, e, some), λ some. omega (arith, a, b, e, some))
    ]) covered

-- Where the new places are taken, and the freed ones are given back but for fixed pages, just what stands after is used.
pub slots-after : (ps qs new freed : List Place) (used mid : List Bool) → length used ≡ 3968 * 8192 → IsCovered (occupied ps 8192) used → Once (standing ps 8192) → Taken used mid new → AllLaid 8192 new
    → AllTame ps → AllTame qs → AllTame freed → ((slot : ℕ) → tally slot qs + tally slot freed ≡ tally slot ps + tally slot new)
    → (after : List Bool) × Taken after mid (all_behind freed) × IsCovered (occupied qs 8192) after
slots-after ps qs new freed used mid size covered once taken laid tame_ps tame_qs tame_freed sums =
    let X : List Place = fixed_places 8192 in
    let old : List Place = (all_behind ps ++ new) ++ X in
    let left : List Place = all_behind qs ++ X in
    let whole : length mid ≡ 3968 * 8192 = taken.size ∙ size in
    let new-fixed : (slot : ℕ) → IsFixed slot → tally slot new ≡ 0 = λ slot fixed. tally-none new slot (λ own.
    taken-free ps new used mid size covered taken laid slot own (covers_last ps X slot (fixed-covers 8192 slot fixed (laid-low 8192 new slot laid own)))) in
    let few : (slot : ℕ) → tally slot ps ≤ 1 = λ slot. let a = tally-of (standing ps 8192) once slot in let b = tally_append slot ps (amap_places 8192) in omega (arith, a, b) in
    let counts : (slot : ℕ) → tally slot old ≡ (tally slot (all_behind ps) + tally slot new) + tally slot X = λ slot.
    let a = tally_append slot (all_behind ps ++ new) X in let b = tally_append slot (all_behind ps) new in omega (arith, a, b) in
    let once_old : Once old = once-of old (λ slot.
    let a = counts slot in
    elim (fixed-cases slot) [
      | inl fixed ↦ let b = all-fixed ps slot tame_ps fixed in let c = new-fixed slot fixed in let d = fixed-once 8192 slot in omega (arith, a, b, c, d)
      | inr free ↦
          let b = all-free ps slot tame_ps free in
          let c = no-fixed slot free in
          let d = few slot in
          let e = tally-of new taken.once slot in
          elim (cases_lt 0 (tally slot new)) [
            | inl some ↦
                let own = tally_some new slot (omega (arith, some)) in
                let none = tally-none ps slot (λ other. taken-free ps new used mid size covered taken laid slot own (covers_first ps X slot other)) in
                omega (arith, a, b, c, e, none)
            | inr none ↦ omega (arith, a, b, c, d, none)
          ]
    ]) in
    let regions : regions_of mid ≡ 8192 = omega (arith, whole) in
    let result = others-left old left (all_behind freed) mid (behind-covered ps new mid whole tame_ps (covered-beside (occupied ps 8192) new used mid covered taken)) once_old
    (λ slot.
    let a = counts slot in
    let b = tally_append slot (all_behind qs) X in
    let c = sums slot in
    elim (fixed-cases slot) [
      | inl fixed ↦
          let d = all-fixed ps slot tame_ps fixed in let e = all-fixed qs slot tame_qs fixed in let f = all-fixed freed slot tame_freed fixed in let g = new-fixed slot fixed in
          omega (arith, a, b, d, e, f, g)
      | inr free ↦
          let d = all-free ps slot tame_ps free in let e = all-free qs slot tame_qs free in let f = all-free freed slot tame_freed free in
          omega (arith, a, b, c, d, e, f)
    ]) (subst (λ (n : ℕ). All (IsLaid n) (all_behind freed)) (sym regions) (all-laid freed tame_freed)) (omega (arith, whole, regions)) in
    (result.0, result.1, covered-behind qs result.0 (sym result.1.size ∙ whole) tame_qs result.2)
