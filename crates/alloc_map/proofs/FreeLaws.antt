-- The slots after freed places leave.
use Rattle.std.proofs.Common.{Bool, true, false, not, ◌≡◌, ◌∙◌, inl, inr, ℕ, ◌+◌, ◌*◌, ◌/◌, ◌<◌, ◌≤◌, ltb, ◌&&◌, List, [], ◌∷◌, length, map, refl, sym, ap, subst, arith}
use Rattle.std.proofs.lemmas.Bool.{cases_lt, lt-ltb, le-ltb, and_parts}
use Rattle.std.proofs.lemmas.List.{get_or_past}
use Rattle.std.proofs.lemmas.List.FromFn.{length-map-range_with_len, get_or-map-range_with_len}
use Rattle.std.proofs.lemmas.List.Elements.{All-head, All-tail}
use Rattle.std.specs.List.{range_with_len, All}
use Rattle.pst_base.specs.declared.places.Place.{Place}
use Rattle.alloc_map.specs.Slots.{IsLaid, is_used, regions_of}
use Rattle.alloc_map.specs.Standing.{SomeCovers, IsCovered}
use Rattle.alloc_map.specs.Covered.{Once}
use Rattle.alloc_map.specs.Tally.{tally}
use Rattle.alloc_map.specs.Taken.{Taken}
use Rattle.alloc_map.proofs.TallyLaws.{once_reordered, some_tally, tally_some, tally_twice}

once-tally : (ps : List Place) → Once ps → (slot : ℕ) → tally slot ps ≤ 1
once-tally ps once slot = elim (cases_lt 1 (tally slot ps)) [ inl two ↦ absurd (once slot (tally_twice ps slot (omega (arith, two)))) | inr few ↦ few ]

laid-within : (regions : ℕ) (ps : List Place) (slot : ℕ) → All (IsLaid regions) ps → SomeCovers ps slot → slot < 3968 * regions
unfolding SomeCovers
laid-within regions [] slot all covers = absurd covers
laid-within regions (p ∷ ps) slot all (inl c) =
    let own : IsLaid regions p = All-head (IsLaid regions) p ps all in
    let a = own.above in let b = own.start in let d = own.whole in let e = own.within in let f = c.ends in omega (arith, a, b, d, e, f)
laid-within regions (p ∷ ps) slot all (inr covers) = laid-within regions ps slot (All-tail (IsLaid regions) p ps all) covers

-- the used slots but for those of some places
abbrev pub without : List Bool → List Place → List Bool
without used freed = map (λ s. is_used used s && not (ltb 0 (tally s freed))) (range_with_len 0 (length used))

-- Freed places can be given back, and then just the others are covered.
pub freed-leave : (ps qs freed : List Place) (used : List Bool) → IsCovered ps used → Once ps → ((slot : ℕ) → tally slot qs + tally slot freed ≡ tally slot ps) → All (IsLaid (regions_of used)) freed → length used ≡ 3968 * regions_of used
    → Taken (without used freed) used freed × IsCovered qs (without used freed)
freed-leave ps qs freed used covered once sums laid whole = (
  record {
    size = sym size;
    laid = subst (λ (n : ℕ). All (IsLaid n) freed) (ap (λ (k : ℕ). k / 3968) (sym size)) laid;
    covered = λ slot c.
        let lt : slot < length used = let a = laid-within (regions_of used) freed slot laid c in omega (arith, a, whole) in
        let one = some_tally freed slot c in
        let sum = sums slot in
        ((covered slot lt).1 (tally_some ps slot (omega (arith, one, sum))), at slot lt ∙ gone slot one);
    others = λ slot none. elim (cases_lt slot (length used)) [
      | inl lt ↦ sym (at slot lt ∙ kept slot (zero-tally slot none))
      | inr past ↦ get_or_past used slot false past ∙ sym (get_or_past (without used freed) slot false (omega (arith, past, size)))
    ];
    once = once_reordered ps freed (λ slot. let sum = sums slot in omega (arith, sum)) once;
  },
  (λ slot lt.
      let within : slot < length used = omega (arith, lt, size) in
      let sum = sums slot in
      let most = once-tally ps once slot in (
        (λ is.
            let parts : (is_used used slot ≡ true) × (not (ltb 0 (tally slot freed)) ≡ true) = and_parts _ _ (sym (at slot within) ∙ is) in
            let some = some_tally ps slot ((covered slot within).0 parts.0) in
            let none = not-some slot parts.1 in
            tally_some qs slot (omega (arith, some, none, sum))),
        (λ c.
            let one = some_tally qs slot c in
            at slot within ∙ kept slot (omega (arith, one, sum, most)) ∙ (covered slot within).1 (tally_some ps slot (omega (arith, one, sum)))),
      )),
)
  where
    size : length (without used freed) ≡ length used
    size = length-map-range_with_len (λ s. is_used used s && not (ltb 0 (tally s freed))) 0 (length used)

    at : (slot : ℕ) → slot < length used → is_used (without used freed) slot ≡ (is_used used slot && not (ltb 0 (tally slot freed)))
    at slot lt = get_or-map-range_with_len (λ s. is_used used s && not (ltb 0 (tally s freed))) 0 (length used) slot slot false lt (omega arith)

    both-false : (a b : Bool) → b ≡ false → (a && b) ≡ false
    both-false true b e = e
    both-false false b e = refl

    both-true : (a b : Bool) → b ≡ true → (a && b) ≡ a
    both-true true b e = e
    both-true false b e = refl

    gone : (slot : ℕ) → 1 ≤ tally slot freed → (is_used used slot && not (ltb 0 (tally slot freed))) ≡ false
    gone slot one = both-false (is_used used slot) (not (ltb 0 (tally slot freed))) (ap not (lt-ltb 0 (tally slot freed) one))

    kept : (slot : ℕ) → tally slot freed ≡ 0 → (is_used used slot && not (ltb 0 (tally slot freed))) ≡ is_used used slot
    kept slot none = both-true (is_used used slot) (not (ltb 0 (tally slot freed))) (ap not (le-ltb 0 (tally slot freed) (omega (arith, none))))

    zero-tally : (slot : ℕ) → (SomeCovers freed slot → ⊥) → tally slot freed ≡ 0
    zero-tally slot none = elim (cases_lt 0 (tally slot freed)) [ inl a ↦ absurd (none (tally_some freed slot a)) | inr a ↦ omega (arith, a) ]

    not-some : (slot : ℕ) → not (ltb 0 (tally slot freed)) ≡ true → tally slot freed ≡ 0
    not-some slot h = elim (cases_lt 0 (tally slot freed)) [ inl a ↦ absurd (clash (sym (ap not (lt-ltb 0 (tally slot freed) a)) ∙ h)) | inr a ↦ omega (arith, a) ]
      where
        clash : ◌≡◌ {A = Bool} false true → ⊥
        clash e = cc

-- freed places were taken from a set of just the others
pub others-left : (ps qs freed : List Place) (used : List Bool) → IsCovered ps used → Once ps → ((slot : ℕ) → tally slot qs + tally slot freed ≡ tally slot ps) → All (IsLaid (regions_of used)) freed → length used ≡ 3968 * regions_of used → (after : List Bool) × Taken after used freed × IsCovered qs after
others-left ps qs freed used covered once sums laid whole = let both = freed-leave ps qs freed used covered once sums laid whole in (without used freed, both.0, both.1)
