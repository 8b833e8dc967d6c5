-- What stands under a key after an element was put or dropped.
use Rattle.std.proofs.Common.{◌≡◌, ℕ, suc, ◌<◌, ◌≤◌, ◌==◌, Bool, true, false, List, [], ◌∷◌, None, Some, IsSome, arith, refl, inl, inr, if◌then◌else◌}
use Rattle.std.specs.Prelude.{nat_lt, nat_le}
use Rattle.std.proofs.lemmas.Bool.{ltb-true, leb-true, eqb-true, eq-eqb, ne_eqb, and_parts, cases_Bool}
use Rattle.mapi_values.specs.Keyed.{keys_ascend, find_key, put_key, drop_key}

swapped : {A : Type 0} (a b : Bool) (x y z : A) → (a ≡ true → b ≡ true → ⊥) → (if a then x else (if b then y else z)) ≡ (if b then y else (if a then x else z))
swapped true true x y z apart = absurd (apart refl refl)
swapped true false x y z apart = refl
swapped false true x y z apart = refl
swapped false false x y z apart = refl

repeated : {A : Type 0} (a b : Bool) (x y z : A) → a ≡ b → (if a then x else z) ≡ (if a then x else (if b then y else z))
repeated true true x y z e = refl
repeated false false x y z e = refl
repeated true false x y z e = refl
repeated false true x y z e = cc

-- under its key stands the one that is put, and elsewhere what stood there
pub find-put : {X : Type 0} (key : X → ℕ) (k : ℕ) (y : X) (xs : List X) → find_key key k (put_key key y xs) ≡ (if key y == k then Some y else find_key key k xs)
find-put key k y [] = refl
find-put key k y (x ∷ xs) =
    elim (cases_Bool (nat_lt (key x) (key y))) [
      | inl t ↦ rw t (rw (find-put key k y xs) (swapped (key x == k) (key y == k) (Some x) (Some y) (find_key key k xs)
          (λ a b. let less : key x < key y = ltb-true (key x) (key y) t in let one : key x ≡ k = eqb-true (key x) k a in let other : key y ≡ k = eqb-true (key y) k b in omega arith)))
      | inr f ↦ rw f (elim (cases_Bool (key x == key y)) [
        | inl t ↦ rw t (let same : key x ≡ key y = eqb-true (key x) (key y) t in
            repeated (key y == k) (key x == k) (Some y) (Some x) (find_key key k xs) (rw same refl))
        | inr n ↦ rw n refl
      ])
    ]

pub find-put_same : {X : Type 0} (key : X → ℕ) (y : X) (xs : List X) → find_key key (key y) (put_key key y xs) ≡ Some y
find-put_same key y xs = rw (find-put key (key y) y xs, eq-eqb (key y) (key y) refl) refl

pub find-put_other : {X : Type 0} (key : X → ℕ) (k : ℕ) (y : X) (xs : List X) → (k ≡ key y → ⊥) → find_key key k (put_key key y xs) ≡ find_key key k xs
find-put_other key k y xs other = rw (find-put key k y xs, ne_eqb (key y) k (λ e. other (omega arith))) refl

-- what is there is there still
pub kept-put : {X : Type 0} (key : X → ℕ) (k : ℕ) (y : X) (xs : List X) → IsSome (find_key key k xs) → IsSome (find_key key k (put_key key y xs))
kept-put key k y xs is = elim (cases_Bool (key y == k)) [ inl t ↦ rw (find-put key k y xs, t) refl | inr f ↦ rw (find-put key k y xs, f) is ]

-- the others stand where they stood
pub find-drop_other : {X : Type 0} (key : X → ℕ) (k d : ℕ) (xs : List X) → (k ≡ d → ⊥) → find_key key k (drop_key key d xs) ≡ find_key key k xs
find-drop_other key k d [] other = refl
find-drop_other key k d (x ∷ xs) other =
    elim (cases_Bool (key x == d)) [
      | inl t ↦ let same : key x ≡ d = eqb-true (key x) d t in rw (t, ne_eqb (key x) k (λ e. other (omega arith))) refl
      | inr f ↦ rw (f, find-drop_other key k d xs other) refl
    ]

-- nothing stands under a key below all
pub below : {X : Type 0} (key : X → ℕ) (low k : ℕ) (xs : List X) → keys_ascend key low xs ≡ true → k < low → find_key key k xs ≡ None
below key low k [] a less = refl
below key low k (x ∷ xs) a less =
    let p = and_parts (nat_le low (key x)) (keys_ascend key (suc (key x)) xs) a in
    let least : low ≤ key x = leb-true low (key x) p.0 in
    rw (ne_eqb (key x) k (λ e. omega arith)) (below key (suc (key x)) k xs p.1 (omega arith))

-- nothing stands under the key that was dropped
pub find-drop_same : {X : Type 0} (key : X → ℕ) (low k : ℕ) (xs : List X) → keys_ascend key low xs ≡ true → find_key key k (drop_key key k xs) ≡ None
find-drop_same key low k [] a = refl
find-drop_same key low k (x ∷ xs) a =
    let p = and_parts (nat_le low (key x)) (keys_ascend key (suc (key x)) xs) a in
    elim (cases_Bool (key x == k)) [
      | inl t ↦ let same : key x ≡ k = eqb-true (key x) k t in rw t (below key (suc (key x)) k xs p.1 (omega arith))
      | inr f ↦ rw (f, f) (find-drop_same key (suc (key x)) k xs p.1)
    ]
