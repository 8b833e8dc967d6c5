-- The slots that pins hold, pin by pin.
use Rattle.std.proofs.Common.{◌≡◌, ◌∙◌, inl, inr, ℕ, suc, ◌+◌, ◌<◌, ◌≤◌, ◌==◌, Bool, true, false, get_or, List, [], ◌∷◌, ◌++◌, length, remove, position, Option, None, Some, if◌then◌else◌, refl, sym, ap, subst, arith, ◌||◌}
use Rattle.std.specs.List.{position_or_len}
use Rattle.std.specs.Option.{is_some}
use Rattle.std.proofs.lemmas.Bool.{cases_lt, lt-ltb, le-ltb}
use Rattle.std.proofs.lemmas.List.{map-append}
use Rattle.std.proofs.lemmas.List.Elements.{All-append, All-cons, All-head, All-nil, All-tail}
use Rattle.std.proofs.lemmas.List.Folds.{list_any-append}
use Rattle.alloc_map.specs.Slots.{is_used}
use Rattle.pst_commit.specs.declared.store.Pin.{Pin}
use Rattle.pst_commit.specs.Held.{IsWithHeld, held_at, held_without, is_held, opened_of}
use Rattle.plan_placing.specs.Places.{placing_over}
use Rattle.file_planner.specs.Holding.{AreLong, AreSized, IsHolding}

-- ---- what is held

pub or-none : (a : Bool) → (a || false) ≡ a
or-none true = refl
or-none false = refl

or-twice : (a b : Bool) → (a || b) ≡ (a || (b || (a || false)))
or-twice true b = refl
or-twice false true = refl
or-twice false false = refl

-- one pin more
held-more : (pins : List (Pin × List Bool)) (pin : Pin × List Bool) (slot : ℕ) → is_held (opened_of (pins ++ pin ∷ [])) slot ≡ (is_held (opened_of pins) slot || (is_used pin.1 slot || false))
held-more pins pin slot =
    ap (λ (o : List (ℕ × List Bool)). is_held o slot) (map-append (λ (p : Pin × List Bool). (p.0.number, p.1)) pins (pin ∷ []))
    ∙ list_any-append (λ (p : ℕ × List Bool). is_used p.1 slot) (opened_of pins) ((pin.0.number, pin.1) ∷ [])

-- no pins hold nothing
none-held : (own : List Bool) → IsWithHeld own [] own
none-held own = record { size = refl; either = λ slot. sym (or-none (is_used own slot)) }

pub none-holding : (own : List Bool) → IsHolding own [] None
none-holding own = record { sized = record { each = All-nil (λ (pin : Pin × List Bool). length pin.1 ≡ length own); whole = refl; none = λ none. refl }; with_held = none-held own }

-- a union that is there
pub no-none : (all : List Bool) → ◌≡◌ {A = Option (List Bool)} (Some all) None → ⊥
no-none all e = cc

pub is-some : (all : Option (List Bool)) → is_some all ≡ true → all ≡ None → ⊥
is-some None some none = cc
is-some (Some all) some none = no-none all none

-- where there is none a plan places over the file's own slots
pub some-now : (own : List Bool) (all : Option (List Bool)) → is_some all ≡ false → placing_over own all ≡ own
some-now own None none = refl
some-now own (Some all) none = cc

-- a pin of the file's own slots adds none to those of the union
pub hold-one : (own : List Bool) (pins : List (Pin × List Bool)) (all now : Option (List Bool)) (pin : Pin) → (now ≡ None → ⊥) → placing_over own now ≡ placing_over own all → IsHolding own pins all → IsHolding own (pins ++ (pin, own) ∷ []) now
hold-one own pins all now pin some same is = record {
  sized = record {
    each = All-append (λ (p : Pin × List Bool). length p.1 ≡ length own) pins ((pin, own) ∷ []) is.sized.each (All-cons (λ (p : Pin × List Bool). length p.1 ≡ length own) (pin, own) [] refl (All-nil (λ (p : Pin × List Bool). length p.1 ≡ length own)));
    whole = ap (λ (l : List Bool). length l) same ∙ is.sized.whole;
    none = λ none. absurd (some none);
  };
  with_held = record {
    size = ap (λ (l : List Bool). length l) same ∙ is.with_held.size;
    either = λ slot.
        ap (λ (l : List Bool). is_used l slot) same ∙ is.with_held.either slot ∙ or-twice (is_used own slot) (is_held (opened_of pins) slot)
        ∙ ap (λ (b : Bool). is_used own slot || b) (sym (held-more pins (pin, own) slot));
  };
}

-- ---- the pin of a number

-- whether a pin has the number
abbrev pub numbered : ℕ → Pin × List Bool → Bool
numbered p pin = pin.0.number == p

-- the place of the first that passes, or the length
abbrev place : ℕ → List (Pin × List Bool) → ℕ
place p pins = position_or_len (numbered p) pins

-- it stands at the first place with its number
at-first : (p : ℕ) (pins : List (Pin × List Bool)) (d : Pin × List Bool) → place p pins < length pins → (held_at p pins ≡ Some (get_or pins (place p pins) d)) × (held_without p pins ≡ remove pins (place p pins))
at-first p [] d lt = absurd (omega (arith, lt))
at-first p (pin ∷ pins) d lt = by (at-first p pins d) (numbered p pin) refl lt
  where
    by : (place p pins < length pins → (held_at p pins ≡ Some (get_or pins (place p pins) d)) × (held_without p pins ≡ remove pins (place p pins))) → (b : Bool) → numbered p pin ≡ b
        → place p (pin ∷ pins) < length (pin ∷ pins) → (held_at p (pin ∷ pins) ≡ Some (get_or (pin ∷ pins) (place p (pin ∷ pins)) d)) × (held_without p (pin ∷ pins) ≡ remove (pin ∷ pins) (place p (pin ∷ pins)))
    by below true is = rw is (λ lt. (refl, refl))
    by below false is = rw is (λ lt.
        let rest = below (omega (arith, lt)) in
        let e : suc (place p pins) ≡ 1 + place p pins = omega arith in
        (rest.0 ∙ ap (λ (k : ℕ). Some (get_or (pin ∷ pins) k d)) e, ap (λ (l : List (Pin × List Bool)). pin ∷ l) rest.1 ∙ ap (remove (pin ∷ pins)) e))

none-first : (p : ℕ) (pins : List (Pin × List Bool)) → length pins ≤ place p pins → (held_at p pins ≡ None) × (held_without p pins ≡ pins)
none-first p [] most = (refl, refl)
none-first p (pin ∷ pins) most = by (none-first p pins) (numbered p pin) refl most
  where
    by : (length pins ≤ place p pins → (held_at p pins ≡ None) × (held_without p pins ≡ pins)) → (b : Bool) → numbered p pin ≡ b → length (pin ∷ pins) ≤ place p (pin ∷ pins) → (held_at p (pin ∷ pins) ≡ None) × (held_without p (pin ∷ pins) ≡ pin ∷ pins)
    by below true is = rw is (λ most. absurd (omega (arith, most)))
    by below false is = rw is (λ most. let rest = below (omega (arith, most)) in (rest.0, ap (λ (l : List (Pin × List Bool)). pin ∷ l) rest.1))

-- the same by the place that a search gives
pub at-place : (p : ℕ) (pins : List (Pin × List Bool)) (d : Pin × List Bool) (i : ℕ) → position (numbered p) pins ≡ Some i → (held_at p pins ≡ Some (get_or pins i d)) × (held_without p pins ≡ remove pins i)
at-place p pins d i is = elim (cases_lt (place p pins) (length pins)) [
  | inl lt ↦
      let same : place p pins ≡ i = some-one (sym (ap (λ (b : Bool). if b then Some (place p pins) else None) (lt-ltb (place p pins) (length pins) lt)) ∙ is) in
      subst (λ (k : ℕ). (held_at p pins ≡ Some (get_or pins k d)) × (held_without p pins ≡ remove pins k)) same (at-first p pins d lt)
  | inr past ↦ absurd (none-some (sym (ap (λ (b : Bool). if b then Some (place p pins) else None) (le-ltb (place p pins) (length pins) past)) ∙ is))
]
  where
    some-one : ◌≡◌ {A = Option ℕ} (Some (place p pins)) (Some i) → place p pins ≡ i
    some-one e = cc

    none-some : ◌≡◌ {A = Option ℕ} None (Some i) → ⊥
    none-some e = cc

pub no-place : (p : ℕ) (pins : List (Pin × List Bool)) → position (numbered p) pins ≡ None → (held_at p pins ≡ None) × (held_without p pins ≡ pins)
no-place p pins is = elim (cases_lt (place p pins) (length pins)) [
  | inl lt ↦ absurd (none-some (sym is ∙ ap (λ (b : Bool). if b then Some (place p pins) else None) (lt-ltb (place p pins) (length pins) lt)))
  | inr past ↦ none-first p pins past
]
  where
    none-some : ◌≡◌ {A = Option ℕ} None (Some (place p pins)) → ⊥
    none-some e = cc

-- ---- a pin given up

long-without : (n p : ℕ) (pins : List (Pin × List Bool)) → AreLong n pins → AreLong n (held_without p pins)
long-without n p [] long = long
long-without n p (pin ∷ pins) long = by (long-without n p pins (All-tail P pin pins long)) (numbered p pin) refl
  where
    P : Pin × List Bool → Type 0
    P x = length x.1 ≡ n

    by : AreLong n (held_without p pins) → (b : Bool) → numbered p pin ≡ b → AreLong n (held_without p (pin ∷ pins))
    by below true is = rw is (All-tail P pin pins long)
    by below false is = rw is (All-cons P pin (held_without p pins) (All-head P pin pins long) below)

-- without a pin the sets are as long
pub sized-without : (own : List Bool) (p : ℕ) (pins now : List (Pin × List Bool)) (all : Option (List Bool)) → now ≡ held_without p pins → AreSized own pins all → AreSized own now all
sized-without own p pins now all is sized = subst (λ (ps : List (Pin × List Bool)). AreSized own ps all) (sym is) (record {
  each = long-without (length own) p pins sized.each;
  whole = sized.whole;
  none = λ none. ap (held_without p) (sized.none none);
})
