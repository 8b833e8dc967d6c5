-- Two lists that ascend by a key, and in which the same stands under each, are one.
use Rattle.std.proofs.Common.{◌≡◌, ℕ, suc, ◌≤◌, true, List, [], ◌∷◌, Some, arith, refl, sym, ap, ◌∙◌, inl, inr}
use Rattle.std.specs.Prelude.{nat_le}
use Rattle.std.proofs.lemmas.Bool.{and_parts, cases_eq, cases_lt, eq-eqb, ne_eqb}
use Rattle.std.proofs.lemmas.Option.{none-some, same_Some}
use Rattle.mapi_values.specs.Keyed.{find_key, keys_ascend}
use Rattle.mail_tree.proofs.KeyedFinds.{below}

-- an element that stands under a key from low on has no lower one
at_least : {X : Type 0} (key : X → ℕ) (low k : ℕ) (xs : List X) (x : X) → keys_ascend key low xs ≡ true → find_key key k xs ≡ Some x → low ≤ k
at_least key low k xs x a e = elim (cases_lt k low) [ inl less ↦ absurd (none-some x (sym (below key low k xs a less) ∙ e)) | inr more ↦ more ]

here : {X : Type 0} (key : X → ℕ) (x : X) (xs : List X) → find_key key (key x) (x ∷ xs) ≡ Some x
here key x xs = rw (eq-eqb (key x) (key x) refl) refl

firsts : {X : Type 0} (key : X → ℕ) (x y : X) (xs ys : List X) → keys_ascend key (suc (key x)) xs ≡ true → keys_ascend key (suc (key y)) ys ≡ true
    → find_key key (key x) (y ∷ ys) ≡ Some x → find_key key (key y) (x ∷ xs) ≡ Some y → x ≡ y
firsts key x y xs ys a b e e' = elim (cases_eq (key y) (key x)) [
  | inl same ↦ sym (same_Some y x (rw (eq-eqb (key y) (key x) same) at e))
  | inr apart ↦
      let more : suc (key y) ≤ key x = at_least key (suc (key y)) (key x) ys x b (rw (ne_eqb (key y) (key x) apart) at e) in
      let less : suc (key x) ≤ key y = at_least key (suc (key x)) (key y) xs y a (rw (ne_eqb (key x) (key y) (λ same. apart (sym same))) at e') in
      absurd (omega arith)
]

later : {X : Type 0} (key : X → ℕ) (x y : X) (xs ys : List X) (k : ℕ) (z : X) → x ≡ y → keys_ascend key (suc (key x)) xs ≡ true → find_key key k xs ≡ Some z
    → (find_key key k (x ∷ xs) ≡ Some z → find_key key k (y ∷ ys) ≡ Some z) → find_key key k ys ≡ Some z
later key x y xs ys k z same a e finds =
    let more : suc (key x) ≤ k = at_least key (suc (key x)) k xs z a e in
    let keys : key x ≡ key y = ap key same in
    rw (ne_eqb (key y) k (λ e. omega arith)) at (finds (rw (ne_eqb (key x) k (λ e. omega arith)) e))

-- two lists that ascend by a key, and in which the same stands under each, are one
pub one_list : {X : Type 0} (key : X → ℕ) (low low' : ℕ) (xs ys : List X) → keys_ascend key low xs ≡ true → keys_ascend key low' ys ≡ true
    → ((k : ℕ) (x : X) → find_key key k xs ≡ Some x → find_key key k ys ≡ Some x) → ((k : ℕ) (x : X) → find_key key k ys ≡ Some x → find_key key k xs ≡ Some x) → xs ≡ ys
one_list key low low' [] [] a b f g = refl
one_list key low low' [] (y ∷ ys) a b f g = absurd (none-some y (g (key y) y (here key y ys)))
one_list key low low' (x ∷ xs) [] a b f g = absurd (none-some x (f (key x) x (here key x xs)))
one_list key low low' (x ∷ xs) (y ∷ ys) a b f g =
    let p = and_parts (nat_le low (key x)) (keys_ascend key (suc (key x)) xs) a in
    let q = and_parts (nat_le low' (key y)) (keys_ascend key (suc (key y)) ys) b in
    let same : x ≡ y = firsts key x y xs ys p.1 q.1 (f (key x) x (here key x xs)) (g (key y) y (here key y ys)) in
    let rest : xs ≡ ys = one_list key (suc (key x)) (suc (key y)) xs ys p.1 q.1 (λ k z e. later key x y xs ys k z same p.1 e (f k z)) (λ k z e. later key y x ys xs k z (sym same) q.1 e (g k z)) in
    λ i. same i ∷ rest i
