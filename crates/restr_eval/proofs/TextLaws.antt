-- The characters and the units of text, one at a time.
use Rattle.std.proofs.Common.{◌≡◌, ◌∙◌, ℕ, Bool, true, false, List, [], ◌∷◌, ◌++◌, length, inl, inr, sym, ap, refl, arith}
use Rattle.std.specs.Prelude.{◌&&◌, ◌==◌}
use Rattle.std.specs.List.{flat_map}
use Rattle.std.proofs.lemmas.Bool.{cases_Bool, eqb-false, eqb-true}
use Rattle.std.specs.Char.Utf16.{is_high_surrogate, is_low_surrogate}
use Rattle.mapi_values.specs.Characters.{characters, lone}
use Rattle.mapi_values.specs.declared.characters.Character.{Character}
use Rattle.restr_codec.specs.declared.restriction.FuzzyFlags.{FuzzyFlags}
use Rattle.restr_eval.specs.Content.{begins, compared, compared_units, contains}

first_same : {A : Type 0} (x y : A) (xs ys : List A) → x ∷ xs ≡ y ∷ ys → (x ≡ y) × (xs ≡ ys)
first_same x y xs ys e = (cc, cc)

some_characters : (u : ℕ) (us : List ℕ) → characters (u ∷ us) ≡ [] → {A : Type 0} → A
unfolding characters
some_characters u [] e = absurd cc
some_characters u (v ∷ us) e = elim (cases_Bool (is_high_surrogate u && is_low_surrogate v)) [
  | inl t ↦ absurd (let e' = rw t at e in cc)
  | inr f ↦ absurd (let e' = rw f at e in cc)
]

-- two units that are one character
pub pair_first : (u v : ℕ) (us : List ℕ) (ch : Character) (rest : List ℕ) → characters (u ∷ v ∷ []) ≡ ch ∷ characters rest → length rest ≡ 0 → characters (u ∷ v ∷ us) ≡ ch ∷ characters us
unfolding characters
pair_first u v us ch (w ∷ rest) e none = absurd (omega (arith, none))
pair_first u v us ch [] e none = elim (cases_Bool (is_high_surrogate u && is_low_surrogate v)) [
  | inl t ↦ rw t (let e' = rw t at e in ap (λ c. c ∷ characters us) (first_same _ ch _ [] e').0)
  | inr f ↦ absurd (let e' = rw f at e in cc)
]

-- a unit with one behind it that is a character by itself
pub lone_first : (u v : ℕ) (us : List ℕ) (ch : Character) (rest : List ℕ) → characters (u ∷ v ∷ []) ≡ ch ∷ characters rest → (length rest ≡ 0 → ⊥) → characters (u ∷ v ∷ us) ≡ ch ∷ characters (v ∷ us)
unfolding characters
lone_first u v us ch [] e some = absurd (some refl)
lone_first u v us ch (w ∷ rest) e some = elim (cases_Bool (is_high_surrogate u && is_low_surrogate v)) [
  | inl t ↦ some_characters w rest (sym (first_same _ ch [] (characters (w ∷ rest)) (rw t at e)).1)
  | inr f ↦ rw f (let e' = rw f at e in ap (λ c. c ∷ characters (v ∷ us)) (first_same (lone u) ch _ (characters (w ∷ rest)) e').0)
]

-- the units of the first character, and those of the rest
pub compared_first : (flags : FuzzyFlags) (us rest : List ℕ) (ch : Character) → characters us ≡ ch ∷ characters rest → compared flags us ≡ compared_units flags ch ++ compared flags rest
unfolding compared
compared_first flags us rest ch e = ap (flat_map (compared_units flags)) e

pub compared_none : (flags : FuzzyFlags) → compared flags [] ≡ []
unfolding compared characters
compared_none flags = refl

-- a slice that isn't empty has some length
pub not_empty : {A : Type 0} (b : Bool) (xs : List A) → b ≡ (length xs == 0) → b ≡ false → length xs ≡ 0 → ⊥
not_empty b xs is f = eqb-false (length xs) 0 (sym is ∙ f)

pub empty : {A : Type 0} (b : Bool) (xs : List A) → b ≡ (length xs == 0) → b ≡ true → length xs ≡ 0
empty b xs is t = eqb-true (length xs) 0 (sym is ∙ t)

-- what stands at the front stands somewhere
pub contains_here : (xs ps : List ℕ) → begins xs ps ≡ true → contains xs ps ≡ true
contains_here [] ps h = h
contains_here (x ∷ xs) ps h = rw h refl
