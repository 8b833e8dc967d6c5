-- What stands under an id after values were put and removed.
use Rattle.std.proofs.Common.{◌≡◌, ℕ, suc, ◌<◌, ◌≤◌, ◌==◌, true, List, [], ◌∷◌, None, Some, arith, refl, inl, inr}
use Rattle.std.specs.Prelude.{nat_le, nat_lt}
use Rattle.std.proofs.lemmas.Bool.{and_parts, cases_Bool, eq-eqb, eqb-true, leb-true, ltb-true, ne_eqb}
use Rattle.mapi_values.specs.Keyed.{drop_key, find_key, keys_ascend, put_key}

-- the element that was put is found
pub find_put_same : {X : Type 0} (key : X → ℕ) (k : ℕ) (y : X) (xs : List X) → key y ≡ k → find_key key k (put_key key y xs) ≡ Some y
find_put_same key k y [] e = rw (eq-eqb (key y) k e) refl
find_put_same key k y (x ∷ xs) e =
    elim (cases_Bool (nat_lt (key x) (key y))) [
      | inl t ↦
          let less : key x < key y = ltb-true (key x) (key y) t in
          rw (t, ne_eqb (key x) k (λ h. omega arith)) (find_put_same key k y xs e)
      | inr f ↦ rw f (elim (cases_Bool (key x == key y)) [
        | inl t ↦ rw (t, eq-eqb (key y) k e) refl
        | inr n ↦ rw (n, eq-eqb (key y) k e) refl
      ])
    ]

-- under another key stands what stood there
pub find_put_other : {X : Type 0} (key : X → ℕ) (k : ℕ) (y : X) (xs : List X) → (key y ≡ k → ⊥) → find_key key k (put_key key y xs) ≡ find_key key k xs
find_put_other key k y [] other = rw (ne_eqb (key y) k other) refl
find_put_other key k y (x ∷ xs) other =
    elim (cases_Bool (nat_lt (key x) (key y))) [
      | inl t ↦ rw (t, find_put_other key k y xs other) refl
      | inr f ↦ rw f (elim (cases_Bool (key x == key y)) [
        | inl t ↦
            let same : key x ≡ key y = eqb-true (key x) (key y) t in
            rw (t, ne_eqb (key y) k other, ne_eqb (key x) k (λ e. other (omega arith))) refl
        | inr n ↦ rw (n, ne_eqb (key y) k other) refl
      ])
    ]

-- no element has a key below the first
find_below : {X : Type 0} (key : X → ℕ) (low k : ℕ) (xs : List X) → k < low → keys_ascend key low xs ≡ true → find_key key k xs ≡ None
find_below key low k [] less a = refl
find_below key low k (x ∷ xs) less a =
    let parts = and_parts (nat_le low (key x)) (keys_ascend key (suc (key x)) xs) a in
    let above : low ≤ key x = leb-true low (key x) parts.0 in
    rw (ne_eqb (key x) k (λ e. omega arith)) (find_below key (suc (key x)) k xs (omega arith) parts.1)

-- the key that was dropped is gone
pub find_drop_same : {X : Type 0} (key : X → ℕ) (low k : ℕ) (xs : List X) → keys_ascend key low xs ≡ true → find_key key k (drop_key key k xs) ≡ None
find_drop_same key low k [] a = refl
find_drop_same key low k (x ∷ xs) a =
    let parts = and_parts (nat_le low (key x)) (keys_ascend key (suc (key x)) xs) a in
    elim (cases_Bool (key x == k)) [
      | inl t ↦ rw t (let same : key x ≡ k = eqb-true (key x) k t in find_below key (suc (key x)) k xs (omega arith) parts.1)
      | inr f ↦ rw (f, f) (find_drop_same key (suc (key x)) k xs parts.1)
    ]

-- under another key stands what stood there
pub find_drop_other : {X : Type 0} (key : X → ℕ) (k j : ℕ) (xs : List X) → (j ≡ k → ⊥) → find_key key k (drop_key key j xs) ≡ find_key key k xs
find_drop_other key k j [] other = refl
find_drop_other key k j (x ∷ xs) other =
    elim (cases_Bool (key x == j)) [
      | inl t ↦ rw t (let same : key x ≡ j = eqb-true (key x) j t in rw (ne_eqb (key x) k (λ e. other (omega arith))) refl)
      | inr f ↦ rw f (elim (cases_Bool (key x == k)) [
        | inl y ↦ rw y refl
        | inr n ↦ rw n (find_drop_other key k j xs other)
      ])
    ]
