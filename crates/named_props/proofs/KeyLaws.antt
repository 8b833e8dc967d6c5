-- What stands under a key after an element was put or dropped.
use Rattle.std.proofs.Common.{◌≡◌, ℕ, suc, ◌<◌, ◌≤◌, ◌==◌, Bool, true, List, [], ◌∷◌, Some, arith, refl, sym, ap, subst, inl, inr}
use Rattle.std.specs.Prelude.{nat_le, nat_lt, not}
use Rattle.std.specs.List.{list_all}
use Rattle.std.proofs.lemmas.Bool.{and_parts, cases_Bool, eq-eqb, eqb-true, leb-true, ltb-true, ne_eqb, true≢false}
use Rattle.mapi_values.specs.Keyed.{drop_key, find_key, keys_ascend, put_key}

-- what is found passes what all elements pass, and has the key
pub find-passes : {X : Type 0} (key : X → ℕ) (test : X → Bool) (k : ℕ) (x : X) (xs : List X) → list_all test xs ≡ true → find_key key k xs ≡ Some x
    → (test x ≡ true) × (key x ≡ k)
find-passes key test k x [] all found = cc
find-passes key test k x (y ∷ ys) all found =
    let parts = and_parts (test y) (list_all test ys) all in
    elim (cases_Bool (key y == k)) [
      | inl t ↦
          let here : Some y ≡ Some x = rw t at found in
          let is : y ≡ x = cc in
          (subst (λ z. test z ≡ true) is parts.0, subst (λ z. key z ≡ k) is (eqb-true (key y) k t))
      | inr f ↦ find-passes key test k x ys parts.1 (rw f at found)
    ]

-- the element that was put is found
pub find-put_same : {X : Type 0} (key : X → ℕ) (y : X) (xs : List X) → find_key key (key y) (put_key key y xs) ≡ Some y
find-put_same key y [] = rw (eq-eqb (key y) (key y) refl) refl
find-put_same key y (x ∷ xs) =
    elim (cases_Bool (nat_lt (key x) (key y))) [
      | inl t ↦
          let less : key x < key y = ltb-true (key x) (key y) t in
          rw (t, ne_eqb (key x) (key y) (λ e. omega arith)) (find-put_same key y xs)
      | inr f ↦ rw f (elim (cases_Bool (key x == key y)) [
        | inl t ↦ rw (t, eq-eqb (key y) (key y) refl) refl
        | inr n ↦ rw (n, eq-eqb (key y) (key y) refl) refl
      ])
    ]

-- under another key stands what stood there
pub find-put_other : {X : Type 0} (key : X → ℕ) (k : ℕ) (y : X) (xs : List X) → (key y ≡ k → ⊥) → find_key key k (put_key key y xs) ≡ find_key key k xs
find-put_other key k y [] other = rw (ne_eqb (key y) k other) refl
find-put_other key k y (x ∷ xs) other =
    elim (cases_Bool (nat_lt (key x) (key y))) [
      | inl t ↦ rw (t, find-put_other key k y xs other) refl
      | inr f ↦ rw f (elim (cases_Bool (key x == key y)) [
        | inl t ↦
            let same : key x ≡ key y = eqb-true (key x) (key y) t in
            rw (t, ne_eqb (key y) k other, ne_eqb (key x) k (λ e. other (omega arith))) refl
        | inr n ↦ rw (n, ne_eqb (key y) k other) refl
      ])
    ]

-- an element with a new key that was put and dropped again
pub drop-put_new : {X : Type 0} (key : X → ℕ) (y : X) (xs : List X) → list_all (λ x. not (key x == key y)) xs ≡ true → drop_key key (key y) (put_key key y xs) ≡ xs
drop-put_new key y [] new = rw (eq-eqb (key y) (key y) refl) refl
drop-put_new key y (x ∷ xs) new =
    let parts = and_parts (not (key x == key y)) (list_all (λ x. not (key x == key y)) xs) new in
    elim (cases_Bool (key x == key y)) [
      | inl t ↦ absurd (true≢false (sym (rw t at parts.0)))
      | inr n ↦ elim (cases_Bool (nat_lt (key x) (key y))) [
        | inl t ↦ rw (t, n) (ap (λ zs. x ∷ zs) (drop-put_new key y xs parts.1))
        | inr f ↦ rw (f, n, eq-eqb (key y) (key y) refl) refl
      ]
    ]

-- no element has a key below the first
key-above : {X : Type 0} (key : X → ℕ) (low k : ℕ) (xs : List X) → k < low → keys_ascend key low xs ≡ true → list_all (λ x. not (key x == k)) xs ≡ true
key-above key low k [] less a = refl
key-above key low k (x ∷ xs) less a =
    let parts = and_parts (nat_le low (key x)) (keys_ascend key (suc (key x)) xs) a in
    let above : low ≤ key x = leb-true low (key x) parts.0 in
    rw (ne_eqb (key x) k (λ e. omega arith)) (key-above key (suc (key x)) k xs (omega arith) parts.1)

-- no element has a key that was dropped
pub drop-gone : {X : Type 0} (key : X → ℕ) (low k : ℕ) (xs : List X) → keys_ascend key low xs ≡ true → list_all (λ x. not (key x == k)) (drop_key key k xs) ≡ true
drop-gone key low k [] a = refl
drop-gone key low k (x ∷ xs) a =
    let parts = and_parts (nat_le low (key x)) (keys_ascend key (suc (key x)) xs) a in
    elim (cases_Bool (key x == k)) [
      | inl t ↦ rw t (let same : key x ≡ k = eqb-true (key x) k t in key-above key (suc (key x)) k xs (omega arith) parts.1)
      | inr f ↦ rw (f, f) (drop-gone key (suc (key x)) k xs parts.1)
    ]
