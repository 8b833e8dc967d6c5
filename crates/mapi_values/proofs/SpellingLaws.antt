-- Reading and printing text, a character at a time.
use Rattle.std.proofs.Common.{◌≡◌, ℕ, List, [], ◌∷◌, ◌++◌, length, refl, ap, sym, ◌∙◌, inl, inr, arith, Option, Some, None, append_assoc, append-nil, length-append, IsUtf8, chars, MatchOption}
use Rattle.std.specs.Prelude.{◌==◌, option_and_then}
use Rattle.std.specs.Char.{encode_utf8, is_digit}
use Rattle.std.specs.Char.Escape.{encode_utf16}
use Rattle.std.proofs.lemmas.Bool.{cases_Bool, ne_eqb}
use Rattle.std.proofs.lemmas.List.{nil_from_length}
use Rattle.std.proofs.lemmas.Str.{chars-nil, chars_past_char, IsUtf8-past_char, length-encode, len_utf8_bounds}
use Rattle.mapi_values.specs.Texts.{TakesFirst, TakesFront}
use Rattle.mapi_values.specs.Spelling.{before, is_escape, units_of, leading_digit, leading_unit, leading_escape}

-- what `next` takes off a text
pub takes_first : (r : Option ℕ) (old new : List ℕ) → IsUtf8 old → MatchOption r (length old ≡ 0) (λ c. old ≡ encode_utf8 c ++ new)
    → MatchOption r (chars old ≡ []) (λ c. TakesFirst old c new)
takes_first None old new utf8 h = ap chars (nil_from_length old h) ∙ chars-nil
takes_first (Some c) old new utf8 h = record {
  first = chars_past_char old new c utf8 h;
  utf8 = IsUtf8-past_char old new c utf8 h;
  shorter = omega (arith, ap length h, length-append (encode_utf8 c) new, length-encode c, len_utf8_bounds c);
}

-- after a backslash the text goes on with its escape
pub units_of-escape : (xs : List ℕ) → units_of (92 ∷ xs) ≡ option_and_then (λ p. before (p.0 ∷ []) (units_of p.1)) (leading_escape xs)
unfolding units_of leading_escape leading_unit leading_digit is_escape
units_of-escape [] = refl
units_of-escape (u ∷ []) =
    elim (cases_Bool (u == 117)) [
      | inl t0 ↦ rw t0 (refl)
      | inr f0 ↦ rw f0 refl
    ]
units_of-escape (u ∷ a ∷ []) =
    elim (cases_Bool (u == 117)) [
      | inl t0 ↦ rw t0 (elim (cases_Bool (is_digit a 16)) [
        | inl t1 ↦ rw t1 (refl)
        | inr f1 ↦ rw f1 refl
      ])
      | inr f0 ↦ rw f0 refl
    ]
units_of-escape (u ∷ a ∷ b ∷ []) =
    elim (cases_Bool (u == 117)) [
      | inl t0 ↦ rw t0 (elim (cases_Bool (is_digit a 16)) [
        | inl t1 ↦ rw t1 (elim (cases_Bool (is_digit b 16)) [
          | inl t2 ↦ rw t2 (refl)
          | inr f2 ↦ rw f2 refl
        ])
        | inr f1 ↦ rw f1 refl
      ])
      | inr f0 ↦ rw f0 refl
    ]
units_of-escape (u ∷ a ∷ b ∷ c ∷ []) =
    elim (cases_Bool (u == 117)) [
      | inl t0 ↦ rw t0 (elim (cases_Bool (is_digit a 16)) [
        | inl t1 ↦ rw t1 (elim (cases_Bool (is_digit b 16)) [
          | inl t2 ↦ rw t2 (elim (cases_Bool (is_digit c 16)) [
            | inl t3 ↦ rw t3 (refl)
            | inr f3 ↦ rw f3 refl
          ])
          | inr f2 ↦ rw f2 refl
        ])
        | inr f1 ↦ rw f1 refl
      ])
      | inr f0 ↦ rw f0 refl
    ]
units_of-escape (u ∷ a ∷ b ∷ c ∷ d ∷ rest) =
    elim (cases_Bool (u == 117)) [
      | inl t0 ↦ rw t0 (elim (cases_Bool (is_digit a 16)) [
        | inl t1 ↦ rw t1 (elim (cases_Bool (is_digit b 16)) [
          | inl t2 ↦ rw t2 (elim (cases_Bool (is_digit c 16)) [
            | inl t3 ↦ rw t3 (elim (cases_Bool (is_digit d 16)) [
              | inl t4 ↦ rw t4 (refl)
              | inr f4 ↦ rw f4 refl
            ])
            | inr f3 ↦ rw f3 refl
          ])
          | inr f2 ↦ rw f2 refl
        ])
        | inr f1 ↦ rw f1 refl
      ])
      | inr f0 ↦ rw f0 refl
    ]

-- any other character gives its own units
pub units_of-plain : (x : ℕ) (xs : List ℕ) → (x ≡ 92 → ⊥) → units_of (x ∷ xs) ≡ before (encode_utf16 x) (units_of xs)
unfolding units_of
units_of-plain x [] apart = rw (ne_eqb x 92 apart) refl
units_of-plain x (u ∷ []) apart = rw (ne_eqb x 92 apart) refl
units_of-plain x (u ∷ a ∷ []) apart = rw (ne_eqb x 92 apart) refl
units_of-plain x (u ∷ a ∷ b ∷ []) apart = rw (ne_eqb x 92 apart) refl
units_of-plain x (u ∷ a ∷ b ∷ c ∷ []) apart = rw (ne_eqb x 92 apart) refl
units_of-plain x (u ∷ a ∷ b ∷ c ∷ d ∷ rest) apart = rw (ne_eqb x 92 apart) refl

before-append : (us vs : List ℕ) (o : Option (List ℕ)) → before us (before vs o) ≡ before (us ++ vs) o
before-append us vs None = refl
before-append us vs (Some ws) = ap Some (sym (append_assoc us vs ws))

-- units are those of a front of the whole text, and rest is what is left of it
pub record IsUnderway (whole units rest : List ℕ) : Type 0 where
  pub utf8 : IsUtf8 rest
  pub same : before units (units_of (chars rest)) ≡ units_of (chars whole)

pub underway_past_plain : (whole units rest next new : List ℕ) (c : ℕ) → IsUnderway whole units rest → TakesFirst rest c new
    → (c ≡ 92 → ⊥) → next ≡ units ++ encode_utf16 c → IsUnderway whole next new
underway_past_plain whole units rest next new c here takes apart e = record {
  utf8 = takes.utf8;
  same = ap (λ x. before x (units_of (chars new))) e ∙ (sym (before-append units (encode_utf16 c) (units_of (chars new)))
      ∙ (ap (before units) (sym (units_of-plain c (chars new) apart) ∙ ap units_of (sym takes.first)) ∙ here.same));
}

-- a text that begins with a backslash gives what its escape says
escapes : (units rest mid : List ℕ) (c : ℕ) → TakesFirst rest c mid → c ≡ 92
    → before units (units_of (chars rest)) ≡ before units (option_and_then (λ p. before (p.0 ∷ []) (units_of p.1)) (leading_escape (chars mid)))
escapes units rest mid c takes is =
    ap (before units) (ap units_of (takes.first ∙ ap (λ x. x ∷ chars mid) is) ∙ units_of-escape (chars mid))

pub underway_past_escape : (whole units rest mid next new : List ℕ) (c u : ℕ) → IsUnderway whole units rest → TakesFirst rest c mid
    → c ≡ 92 → TakesFront (leading_escape (chars mid)) mid u new → next ≡ units ++ u ∷ [] → IsUnderway whole next new
underway_past_escape whole units rest mid next new c u here takes is escape e = record {
  utf8 = escape.utf8;
  same = ap (λ x. before x (units_of (chars new))) e ∙ (sym (before-append units (u ∷ []) (units_of (chars new)))
      ∙ (ap (λ o. before units (option_and_then (λ p. before (p.0 ∷ []) (units_of p.1)) o)) (sym escape.front)
      ∙ (sym (escapes units rest mid c takes is) ∙ here.same)));
}

pub underway_at_fault : (whole units rest mid : List ℕ) (c : ℕ) → IsUnderway whole units rest → TakesFirst rest c mid
    → c ≡ 92 → leading_escape (chars mid) ≡ None → units_of (chars whole) ≡ None
underway_at_fault whole units rest mid c here takes is none =
    sym here.same ∙ (escapes units rest mid c takes is ∙ ap (λ o. before units (option_and_then (λ p. before (p.0 ∷ []) (units_of p.1)) o)) none)

pub underway_at_end : (whole units rest : List ℕ) → IsUnderway whole units rest → chars rest ≡ [] → units_of (chars whole) ≡ Some units
unfolding units_of
underway_at_end whole units rest here none =
    sym here.same ∙ (ap (λ x. before units (units_of x)) none ∙ ap Some (append-nil units))
