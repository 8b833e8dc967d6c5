-- Entries that ascend by their keys, one by one.
use Rattle.std.proofs.Common.{◌≡◌, ℕ, zero, suc, ◌+◌, ◌^◌, ◌<◌, ◌≤◌, List, [], ◌∷◌, ◌++◌, length, take, drop, get_or, map, refl, sym, ap, subst, arith}
use Rattle.std.proofs.lemmas.List.{map-append, take_more}
use Rattle.tree_edit.specs.Shapes.{RiseIn}
use Rattle.tree_edit.proofs.ShapeLaws.{rise-join, rise-part, rise-widen}

module _ {E : Type 0} (key : E → ℕ) where
  -- the keys ascend below a number, and below none that is less
  pub record Rises (least : ℕ) (es : List E) : Type 0 where
    pub rises : RiseIn 0 least (map key es)
    pub least_is : (high : ℕ) → RiseIn 0 high (map key es) → least ≤ high

  pub rises-none : Rises 0 []
  rises-none = record { rises = tt; least_is = λ high rise. omega arith }

  rises-last : (least : ℕ) (es : List E) (e : E) → Rises least es → least ≤ key e → Rises (key e + 1) (es ++ e ∷ [])
  rises-last least es e so_far low = record {
    rises = subst (RiseIn 0 (key e + 1)) (sym (map-append key es (e ∷ []))) (rise-join 0 least (key e) (key e + 1) (map key es) (key e ∷ []) so_far.rises (omega arith, omega arith, tt) low (omega arith) (omega arith));
    least_is = λ high rise.
        let parts = rise-part 0 high (key e) (map key es) [] (subst (RiseIn 0 high) (map-append key es (e ∷ [])) rise) in
        let above = parts.2.1 in
        omega (arith, above);
  }

  -- one entry more
  pub rises-more : (least : ℕ) (es : List E) (i : ℕ) (e : E) → i < length es → Rises least (take i es) → least ≤ key (get_or es i e) → Rises (key (get_or es i e) + 1) (take (i + 1) es)
  rises-more least es i e within so_far low = subst (Rises (key (get_or es i e) + 1)) (sym (take_more es i e within)) (rises-last least (take i es) (get_or es i e) so_far low)

  split-at : (es : List E) (i : ℕ) (e : E) → i < length es → es ≡ take i es ++ get_or es i e ∷ drop (suc i) es
  split-at [] i e within = absurd (omega (arith, within))
  split-at (x ∷ xs) zero e within = refl
  split-at (x ∷ xs) (suc i) e within = ap (λ (l : List E). x ∷ l) (split-at xs i e (omega (arith, within)))

  -- one that isn't above those before it
  pub rises-not : (least : ℕ) (es : List E) (i : ℕ) (e : E) → i < length es → Rises least (take i es) → key (get_or es i e) < least → RiseIn 0 (2 ^ 64) (map key es) → ⊥
  rises-not least es i e within so_far low rise =
      let x = get_or es i e in
      let whole = subst (λ (l : List E). RiseIn 0 (2 ^ 64) (map key l)) (split-at es i e within) rise in
      let parts = rise-part 0 (2 ^ 64) (key x) (map key (take i es)) (map key (drop (suc i) es)) (subst (RiseIn 0 (2 ^ 64)) (map-append key (take i es) (x ∷ drop (suc i) es)) whole) in
      let least_is = so_far.least_is (key x) parts.0 in
      omega (arith, low, least_is)

  pub rises-all : (least : ℕ) (es : List E) → Rises least es → least ≤ 2 ^ 64 → RiseIn 0 (2 ^ 64) (map key es)
  rises-all least es so_far few = rise-widen 0 least 0 (2 ^ 64) (map key es) so_far.rises (omega arith) (omega (arith, few))
