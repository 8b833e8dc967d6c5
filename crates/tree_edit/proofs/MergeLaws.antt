-- A leaf's entries, one by one.
use Rattle.std.proofs.Common.{◌≡◌, ℕ, zero, suc, ◌+◌, ◌^◌, ◌≤◌, ◌<◌, List, [], ◌∷◌, ◌++◌, map, length, drop, get_or, refl, sym, ap, subst, ◌∙◌, arith, append_assoc}
use Rattle.std.proofs.lemmas.Bool.{lt-ltb, le-ltb}
use Rattle.tree_edit.specs.Shapes.{RiseIn}
use Rattle.tree_edit.specs.Edits.{under, over}
use Rattle.tree_edit.proofs.ShapeLaws.{rise-widen}
use Rattle.tree_edit.proofs.EditLaws.{AreOver, rise-over, under-none, over-all}

pub drop-here : {B A : Type 0} (f : B → A) (bs : List B) (i : ℕ) (d : B) → i < length bs → drop i (map f bs) ≡ f (get_or bs i d) ∷ drop (i + 1) (map f bs)
drop-here f [] i d h = absurd (omega arith)
drop-here f (b ∷ bs) zero d h = refl
drop-here f (b ∷ bs) (suc i) d h =
    let e : suc (i + 1) ≡ suc i + 1 = omega arith in
    subst (λ (n : ℕ). drop i (map f bs) ≡ f (get_or bs i d) ∷ drop n (map f (b ∷ bs))) e (drop-here f bs i d (omega arith))

pub rise-drop : {A : Type 0} (key : A → ℕ) (low high i : ℕ) (xs : List A) → RiseIn low high (map key xs) → RiseIn low high (map key (drop i xs))
rise-drop key low high zero xs r = r
rise-drop key low high (suc i) [] r = tt
rise-drop key low high (suc i) (x ∷ xs) r =
    let le = r.0 in rise-widen (key x + 1) high low high (map key (drop i xs)) (rise-drop key (key x + 1) high i xs r.2) (omega arith) (omega arith)

-- the first entry that is left is below the key, at it or above it
pub record Here {A : Type 0} (key : A → ℕ) (k : ℕ) (xs unders overs : List A) : Type 0 where
  pub under : under key k xs ≡ unders
  pub over : over key k xs ≡ overs

at-below : {A : Type 0} (key : A → ℕ) (k : ℕ) (x : A) (xs : List A) → key x < k → Here key k (x ∷ xs) (x ∷ under key k xs) (over key k xs)
at-below key k x xs h = let le : key x ≤ k = omega arith in record { under = rw (lt-ltb _ _ h) refl; over = rw (le-ltb _ _ le) refl }

at-equal : {A : Type 0} (key : A → ℕ) (low high k : ℕ) (x : A) (xs : List A) → RiseIn low high (map key (x ∷ xs)) → key x ≡ k → Here key k (x ∷ xs) [] xs
at-equal key low high k x xs r e =
    let over_all : AreOver key (k + 1) xs = rise-over key (key x + 1) high (k + 1) xs r.2 (omega arith) in
    let a : k ≤ key x = omega arith in
    let b : key x ≤ k = omega arith in
    record { under = rw (le-ltb _ _ a) (under-none key k (k + 1) xs (omega arith) over_all); over = rw (le-ltb _ _ b) (over-all key k (k + 1) xs (omega arith) over_all) }

at-above : {A : Type 0} (key : A → ℕ) (low high k : ℕ) (x : A) (xs : List A) → RiseIn low high (map key (x ∷ xs)) → k < key x → Here key k (x ∷ xs) [] (x ∷ xs)
at-above key low high k x xs r h =
    let over_all : AreOver key (k + 1) xs = rise-over key (key x + 1) high (k + 1) xs r.2 (omega arith) in
    let a : k ≤ key x = omega arith in
    record {
      under = rw (le-ltb _ _ a) (under-none key k (k + 1) xs (omega arith) over_all);
      over = rw (lt-ltb _ _ h) (ap (λ (l : List _). x ∷ l) (over-all key k (k + 1) xs (omega arith) over_all));
    }

pub drop-at : {A : Type 0} (xs : List A) (i : ℕ) (d : A) → i < length xs → drop i xs ≡ get_or xs i d ∷ drop (i + 1) xs
drop-at [] i d h = absurd (omega arith)
drop-at (x ∷ xs) zero d h = refl
drop-at (x ∷ xs) (suc i) d h =
    let e : suc (i + 1) ≡ suc i + 1 = omega arith in subst (λ (n : ℕ). drop i xs ≡ get_or xs i d ∷ drop n (x ∷ xs)) e (drop-at xs i d (omega arith))

module _ {A : Type 0} (key : A → ℕ) (xs : List A) (i k : ℕ) (x : A) (inside : i < length xs) (is : x ≡ get_or xs i x) where
  here : drop i xs ≡ x ∷ drop (i + 1) xs
  here = drop-at xs i x inside ∙ ap (λ (y : A). y ∷ drop (i + 1) xs) (sym is)

  rises-here : RiseIn 0 (2 ^ 64) (map key xs) → RiseIn 0 (2 ^ 64) (map key (x ∷ drop (i + 1) xs))
  rises-here r = subst (λ (l : List A). RiseIn 0 (2 ^ 64) (map key l)) here (rise-drop key 0 (2 ^ 64) i xs r)

  pub below-step : key x < k → Here key k (drop i xs) (x ∷ under key k (drop (i + 1) xs)) (over key k (drop (i + 1) xs))
  below-step h = subst (λ (l : List A). Here key k l (x ∷ under key k (drop (i + 1) xs)) (over key k (drop (i + 1) xs))) (sym here) (at-below key k x (drop (i + 1) xs) h)

  pub equal-step : RiseIn 0 (2 ^ 64) (map key xs) → key x ≡ k → Here key k (drop i xs) [] (drop (i + 1) xs)
  equal-step r h = subst (λ (l : List A). Here key k l [] (drop (i + 1) xs)) (sym here) (at-equal key 0 (2 ^ 64) k x (drop (i + 1) xs) (rises-here r) h)

  pub above-step : RiseIn 0 (2 ^ 64) (map key xs) → k < key x → Here key k (drop i xs) [] (drop i xs)
  above-step r h = subst (λ (l : List A). Here key k l [] l) (sym here) (at-above key 0 (2 ^ 64) k x (drop (i + 1) xs) (rises-here r) h)

-- one entry of a page more
pub rest-step : {A : Type 0} (f : List ℕ → A) (bs : List (List ℕ)) (i : ℕ) (x : A) → i < length bs → x ≡ f (get_or bs i []) → (out new : List A) → new ≡ out ++ (x ∷ []) → new ++ drop (i + 1) (map f bs) ≡ out ++ drop i (map f bs)
rest-step {A} f bs i x inside is out new e =
    let here : drop i (map f bs) ≡ x ∷ drop (i + 1) (map f bs) = drop-here f bs i [] inside ∙ ap (λ (y : A). y ∷ drop (i + 1) (map f bs)) (sym is) in
    ap (λ (l : List A). l ++ drop (i + 1) (map f bs)) e ∙ append_assoc out (x ∷ []) (drop (i + 1) (map f bs)) ∙ ap (λ (l : List A). out ++ l) (sym here)
