-- Places that were taken over more slots than a file uses, as what pins hold is used too.
use Rattle.std.proofs.Common.{Bool, true, false, ◌≡◌, ◌∙◌, inl, inr, ℕ, ◌/◌, ◌<◌, ◌≤◌, ltb, List, [], ◌∷◌, length, map, refl, sym, ap, subst, arith, ◌||◌}
use Rattle.std.specs.List.{All, range_with_len}
use Rattle.std.proofs.lemmas.Bool.{cases_lt, le-ltb, lt-ltb}
use Rattle.std.proofs.lemmas.List.{get_or_past}
use Rattle.std.proofs.lemmas.List.FromFn.{get_or-map-range_with_len, length-map-range_with_len}
use Rattle.pst_base.specs.declared.places.Place.{Place}
use Rattle.pst_header.specs.declared.header.Header.{Header}
use Rattle.alloc_map.specs.Slots.{IsLaid, is_used}
use Rattle.alloc_map.specs.Standing.{SomeCovers}
use Rattle.alloc_map.specs.Taken.{Taken}
use Rattle.alloc_map.specs.Tally.{tally}
use Rattle.alloc_map.proofs.TallyLaws.{some_tally, tally_some}
use Rattle.pst_commit.specs.declared.store.Pin.{Pin}
use Rattle.pst_commit.specs.Held.{IsWithHeld, KeepsEach, KeepsTrees, is_held, opened_of}
use Rattle.file_planner.specs.Holding.{IsOver}

-- the used slots with those of some places
abbrev pub with_places : List Bool → List Place → List Bool
with_places used ps = map (λ s. is_used used s || ltb 0 (tally s ps)) (range_with_len 0 (length used))

pub used-low : (used : List Bool) (slot : ℕ) → is_used used slot ≡ true → slot < length used
used-low used slot is = elim (cases_lt slot (length used)) [ inl lt ↦ lt | inr past ↦ absurd (clash (sym (get_or_past used slot false past) ∙ is)) ]
  where
    clash : ◌≡◌ {A = Bool} false true → ⊥
    clash e = cc

-- what was free among more slots is free among these, so that the places are taken in these alone
pub taken-over : (used all now : List Bool) (ps : List Place) → IsOver used all → Taken all now ps → (own : List Bool) × Taken used own ps
taken-over used all now ps over taken = (
  with_places used ps,
  record {
    size = size;
    laid = subst (λ (n : ℕ). All (IsLaid n) ps) (ap (λ (k : ℕ). k / 3968) over.size) taken.laid;
    covered = λ slot c.
        let on = taken.covered slot c in
        let a = used-low now slot on.0 in
        let b = taken.size in
        let d = over.size in
        let lt : slot < length used = omega (arith, a, b, d) in
        (at slot lt ∙ ap (λ (x : Bool). is_used used slot || x) (lt-ltb 0 (tally slot ps) (some_tally ps slot c)) ∙ or-true (is_used used slot), free slot (is_used used slot) refl on.1);
    others = λ slot none. elim (cases_lt slot (length used)) [
      | inl lt ↦ at slot lt ∙ ap (λ (x : Bool). is_used used slot || x) (le-ltb 0 (tally slot ps) (zero slot none)) ∙ or-false (is_used used slot)
      | inr past ↦ get_or_past (with_places used ps) slot false (omega (arith, past, size)) ∙ sym (get_or_past used slot false past)
    ];
    once = taken.once;
  },
)
  where
    size : length (with_places used ps) ≡ length used
    size = length-map-range_with_len (λ s. is_used used s || ltb 0 (tally s ps)) 0 (length used)

    at : (slot : ℕ) → slot < length used → is_used (with_places used ps) slot ≡ (is_used used slot || ltb 0 (tally slot ps))
    at slot lt = get_or-map-range_with_len (λ s. is_used used s || ltb 0 (tally s ps)) 0 (length used) slot slot false lt (omega arith)

    or-true : (b : Bool) → (b || true) ≡ true
    or-true true = refl
    or-true false = refl

    or-false : (b : Bool) → (b || false) ≡ b
    or-false true = refl
    or-false false = refl

    clash : ◌≡◌ {A = Bool} true false → ⊥
    clash e = cc

    free : (slot : ℕ) (b : Bool) → is_used used slot ≡ b → is_used all slot ≡ false → is_used used slot ≡ false
    free slot true is none = absurd (clash (sym (over.each slot is) ∙ none))
    free slot false is none = is

    zero : (slot : ℕ) → (SomeCovers ps slot → ⊥) → tally slot ps ≤ 0
    zero slot none = elim (cases_lt 0 (tally slot ps)) [ inl some ↦ absurd (none (tally_some ps slot some)) | inr few ↦ few ]

-- ---- what is held

pub or-first : (a b : Bool) → a ≡ true → (a || b) ≡ true
or-first true b e = refl
or-first false b e = absurd (clash e)
  where
    clash : ◌≡◌ {A = Bool} false true → ⊥
    clash e = cc

or-last : (a b : Bool) → b ≡ true → (a || b) ≡ true
or-last true b e = refl
or-last false b e = e

-- a plan places over all slots of the file
pub over-own : (own all : List Bool) (opened : List (ℕ × List Bool)) → IsWithHeld own opened all → IsOver own all
over-own own all opened is = record { size = is.size; each = λ slot used. is.either slot ∙ or-first (is_used own slot) (is_held opened slot) used }

-- and over those of each pin
pub over-pin : (own all used : List Bool) (opened : List (ℕ × List Bool)) → IsWithHeld own opened all → length used ≡ length own → ((slot : ℕ) → is_used used slot ≡ true → is_held opened slot ≡ true) → IsOver used all
over-pin own all used opened is size held = record {
  size = is.size ∙ sym size;
  each = λ slot on. is.either slot ∙ or-last (is_used own slot) (is_held opened slot) (held slot on);
}

-- what keeps trees in slots that are held keeps those of each pin
pub keep-each : (old new : Header) (file other : List ℕ) (pins : List (Pin × List Bool)) → ((used : List Bool) → ((slot : ℕ) → is_used used slot ≡ true → is_held (opened_of pins) slot ≡ true) → KeepsTrees old new file other used) → KeepsEach old new file other pins
keep-each old new file other [] kept = tt
keep-each old new file other (pin ∷ pins) kept = (
  kept pin.1 (λ slot on. or-first (is_used pin.1 slot) (is_held (opened_of pins) slot) on),
  keep-each old new file other pins (λ used held. kept used (λ slot on. or-last (is_used pin.1 slot) (is_held (opened_of pins) slot) (held slot on))),
)
