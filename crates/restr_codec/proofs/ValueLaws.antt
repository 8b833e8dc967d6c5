-- The values that are read: their bytes and their lengths.
use Rattle.std.proofs.Common.{◌≡◌, ◌∙◌, ℕ, true, List, [], ◌∷◌, ◌++◌, length, take, drop, Option, None, Some, inl, inr, ◌⊎◌, refl, sym, ap, nat_le, nat_lt, nat_eq}
use Rattle.std.proofs.lemmas.Bool.{cases_Bool, leb-true, eqb-true, eq-eqb}
use Rattle.std.proofs.lemmas.List.{take-append-drop, length-take-le}
use Rattle.restr_codec.specs.Kinds.{has_width, value_width}
use Rattle.restr_codec.specs.Reading.{front, width_front, truth_front, value_front}

some_same : {A : Type 0} (a b : A) → Some a ≡ Some b → a ≡ b
some_same a b e = cc

pub some_both : {A B : Type 0} (p q : A × B) → Some p ≡ Some q → (p.0 ≡ q.0) × (p.1 ≡ q.1)
some_both {A} {B} p q e =
    let both : p ≡ q = some_same p q e in
    (ap (λ (r : A × B). r.0) both, ap (λ (r : A × B). r.1) both)

-- the front has the length that was asked for, and the rest stands behind it
pub record IsFront (n : ℕ) (bytes x rest : List ℕ) : Type 0 where
  pub parts : bytes ≡ x ++ rest
  pub len : length x ≡ n

pub front_parts : (n : ℕ) (bytes x rest : List ℕ) → front n bytes ≡ Some (x, rest) → IsFront n bytes x rest
front_parts n bytes x rest e = elim (cases_Bool (nat_le n (length bytes))) [
  | inl y ↦
      let e' = rw y at e in
      let is = some_both {A = List ℕ} {B = List ℕ} (take n bytes, drop n bytes) (x, rest) e' in
      record { parts = sym (take-append-drop n bytes) ∙ ap (λ xs. xs ++ drop n bytes) is.0 ∙ ap (λ xs. x ++ xs) is.1; len = ap length (sym is.0) ∙ length-take-le n bytes (leb-true n (length bytes) y) }
  | inr f ↦ absurd (let e' = rw f at e in cc)
]

width_parts : (width : Option ℕ) (bytes x rest : List ℕ) → width_front width bytes ≡ Some (x, rest) → has_width width (length x) ≡ true
width_parts None bytes x rest e = absurd cc
width_parts (Some n) bytes x rest e = eq-eqb (length x) n (front_parts n bytes x rest e).len

truth_width : (bytes x rest : List ℕ) → truth_front bytes ≡ Some (x, rest) → length x ≡ 1
truth_width [] x rest e = absurd cc
truth_width (a ∷ bytes) x rest e = elim (cases_Bool (nat_lt a 2)) [
  | inl y ↦ (front_parts 1 (a ∷ bytes) x rest (rw y at e)).len
  | inr f ↦ absurd (let e' = rw f at e in cc)
]

free_width : (kind len : ℕ) → (kind ≡ 0x001F) ⊎ (kind ≡ 0x0102) → has_width (value_width kind) len ≡ true
unfolding value_width
free_width kind len (inl e) = rw e refl
free_width kind len (inr e) = rw e refl

byte_width : (kind len : ℕ) → kind ≡ 0x000B → len ≡ 1 → has_width (value_width kind) len ≡ true
unfolding value_width
byte_width kind len e one = rw (e, one) refl

-- a value that is read has the length of its kind
pub sound_front : (kind : ℕ) (bytes x rest : List ℕ) → value_front kind bytes ≡ Some (x, rest) → has_width (value_width kind) (length x) ≡ true
unfolding value_front
sound_front kind bytes x rest e = elim (cases_Bool (nat_eq kind 0x001F)) [
  | inl y ↦ free_width kind (length x) (inl (eqb-true kind 0x001F y))
  | inr not_text ↦ elim (cases_Bool (nat_eq kind 0x0102)) [
    | inl y ↦ free_width kind (length x) (inr (eqb-true kind 0x0102 y))
    | inr not_binary ↦ elim (cases_Bool (nat_eq kind 0x000B)) [
      | inl y ↦ byte_width kind (length x) (eqb-true kind 0x000B y) (truth_width bytes x rest (rw (not_text, not_binary, y) at e))
      | inr not_truth ↦ width_parts (value_width kind) bytes x rest (rw (not_text, not_binary, not_truth) at e)
    ]
  ]
]
