-- Own search folders in the order of their ids.
use Rattle.std.proofs.Common.{◌≡◌, ◌∙◌, ℕ, ◌==◌, ◌&&◌, true, arith, List, [], ◌∷◌, Result, Ok, Err, OnOk, OnErr, map, suc, ap, refl, sym, inl, inr}
use Rattle.std.specs.Prelude.{nat_le, nat_lt}
use Rattle.std.proofs.lemmas.Bool.{cases_Bool}
use Rattle.mapi_values.specs.Keyed.{drop_key, keys_ascend, put_key}
use Rattle.mapi_values.proofs.KeyedLaws.{drop-ascends, put-ascends}

-- elements ascend where their keys do
pub ascend_map : {E : Type 0} (key : E → ℕ) (low : ℕ) (xs : List E) → keys_ascend (λ k. k) low (map key xs) ≡ keys_ascend key low xs
ascend_map key low [] = refl
ascend_map key low (x ∷ xs) = ap (λ b. nat_le low (key x) && b) (ascend_map key (suc (key x)) xs)

-- the keys with one more are those of the elements with one more
pub put_map : {E : Type 0} (key : E → ℕ) (x : E) (xs : List E) → map key (put_key key x xs) ≡ put_key (λ k. k) (key x) (map key xs)
put_map key x [] = refl
put_map key x (y ∷ ys) = elim (cases_Bool (nat_lt (key y) (key x))) [
  | inl t ↦ rw t (ap (λ ks. key y ∷ ks) (put_map key x ys))
  | inr f ↦ elim (cases_Bool (key y == key x)) [
    | inl t ↦ rw (f, t) refl
    | inr g ↦ rw (f, g) refl
  ]
]

-- the keys ascend still with one more
pub put_ascends : {E : Type 0} (key : E → ℕ) (x : E) (old new : List E) → new ≡ put_key key x old → keys_ascend (λ k. k) 0 (map key old) ≡ true → keys_ascend (λ k. k) 0 (map key new) ≡ true
put_ascends key x old new put a = ascend_map key 0 new ∙ ap (keys_ascend key 0) put ∙ put-ascends key 0 x old (omega arith) (sym (ascend_map key 0 old) ∙ a)

-- and where they are as before in case of an error
pub put_kept : {A F E : Type 0} (r : Result A F) (key : E → ℕ) (x : E) (old new : List E) → OnOk r (new ≡ put_key key x old) → OnErr r (new ≡ old) → keys_ascend (λ k. k) 0 (map key old) ≡ true → keys_ascend (λ k. k) 0 (map key new) ≡ true
put_kept (Ok u) key x old new ok err a = put_ascends key x old new ok a
put_kept (Err e) key x old new ok err a = rw err a

-- the keys without one are those of the elements without it
pub drop_map : {E : Type 0} (key : E → ℕ) (k : ℕ) (xs : List E) → map key (drop_key key k xs) ≡ drop_key (λ j. j) k (map key xs)
drop_map key k [] = refl
drop_map key k (x ∷ xs) = elim (cases_Bool (key x == k)) [
  | inl t ↦ rw t refl
  | inr f ↦ rw f (ap (λ ks. key x ∷ ks) (drop_map key k xs))
]

-- the keys ascend still without one
pub drop_ascends : {E : Type 0} (key : E → ℕ) (k : ℕ) (old new : List E) → new ≡ drop_key key k old → keys_ascend (λ j. j) 0 (map key old) ≡ true → keys_ascend (λ j. j) 0 (map key new) ≡ true
drop_ascends key k old new drop a = ascend_map key 0 new ∙ ap (keys_ascend key 0) drop ∙ drop-ascends key 0 k old (sym (ascend_map key 0 old) ∙ a)
