-- Entries by keys that ascend strictly.
use Rattle.std.proofs.Common.{◌≡◌, ◌<◌, ◌≤◌, ◌⊎◌, ℕ, zero, suc, ◌+◌, true, false, cond, eqb, List, [], ◌∷◌, ◌++◌, length, get_or, take, drop, Option, None, Some, refl, sym, ap, ◌∙◌, subst, inl, inr, arith}
use Rattle.std.proofs.lemmas.List.{append-nil}
use Rattle.std.proofs.lemmas.List.Elements.{All-nil, All-cons}
use Rattle.std.specs.Prelude.{All}
use Rattle.std.proofs.lemmas.Bool.{cases_eq, eq-eqb, ne_eqb}
use Rattle.ref_counts.specs.Tables.{Rises, entry_at}

-- a test of two keys
abbrev Tested : ℕ → ℕ → Type 0
Tested a b = ((eqb a b ≡ true) × (a ≡ b)) ⊎ ((eqb a b ≡ false) × (a ≡ b → ⊥))

pub tested : (a b : ℕ) → Tested a b
tested a b = elim (cases_eq a b) as (λ v. Tested a b) [ inl same ↦ inl (eq-eqb a b same, same) | inr other ↦ inr (ne_eqb a b other, other) ]

module _ {E : Type 0} (key : E → ℕ) where
  -- an end is no lower than the start
  pub rises-le : (low high : ℕ) (es : List E) → Rises key low high es → low ≤ high
  rises-le low high [] r = r
  rises-le low high (e ∷ es) r =
      let rest = rises-le (key e + 1) high es r.1 in
      let here : low ≤ key e = r.0 in
      omega (arith, rest, here)

  -- a lower start, and a higher end
  pub rises-lower : (low lower high : ℕ) (es : List E) → lower ≤ low → Rises key low high es → Rises key lower high es
  rises-lower low lower high [] less r = omega (arith, less, r)
  rises-lower low lower high (e ∷ es) less r = let here : low ≤ key e = r.0 in (omega (arith, less, here), r.1)

  pub rises-higher : (low high higher : ℕ) (es : List E) → high ≤ higher → Rises key low high es → Rises key low higher es
  rises-higher low high higher [] less r = omega (arith, less, r)
  rises-higher low high higher (e ∷ es) less r = (r.0, rises-higher (key e + 1) high higher es less r.1)

  -- one list behind another
  pub rises-append : (low mid high : ℕ) (xs ys : List E) → Rises key low mid xs → Rises key mid high ys → Rises key low high (xs ++ ys)
  rises-append low mid high [] ys front back = rises-lower mid low high ys front back
  rises-append low mid high (e ∷ xs) ys front back = (front.0, rises-append (key e + 1) mid high xs ys front.1 back)

  -- below the first key and past the last there is none
  pub none-below : (low high k : ℕ) (es : List E) → Rises key low high es → k < low → entry_at key k es ≡ None
  none-below low high k [] r below = refl
  none-below low high k (e ∷ es) r below =
      let here : low ≤ key e = r.0 in
      rw (ne_eqb (key e) k (λ same. omega (arith, here, below, same)))
      (none-below (key e + 1) high k es r.1 (omega (arith, here, below)))

  pub none-above : (low high k : ℕ) (es : List E) → Rises key low high es → high ≤ k → entry_at key k es ≡ None
  none-above low high k [] r above = refl
  none-above low high k (e ∷ es) r above =
      let rest : key e + 1 ≤ high = rises-le (key e + 1) high es r.1 in
      rw (ne_eqb (key e) k (λ same. omega (arith, rest, above, same)))
      (none-above (key e + 1) high k es r.1 above)

  -- the entry of a key that the front hasn't is that of the rest
  pub at-append : (k : ℕ) (xs ys : List E) → entry_at key k xs ≡ None → entry_at key k (xs ++ ys) ≡ entry_at key k ys
  at-append k [] ys none = refl
  at-append k (e ∷ xs) ys none = elim (tested (key e) k) as (λ v. entry_at key k ((e ∷ xs) ++ ys) ≡ entry_at key k ys) [
    | inl t ↦ (let bad : Some e ≡ None = subst (λ (b : _). cond b (Some e) (entry_at key k xs) ≡ None) t.0 none in absurd (not-none e bad))
    | inr t ↦ rw t.0 (at-append k xs ys (subst (λ (b : _). cond b (Some e) (entry_at key k xs) ≡ None) t.0 none))
  ]
    where
      not-none : (x : E) → Some x ≡ None → ⊥
      not-none x h = cc

  -- an entry among others, whose keys before it are lower
  pub seat : (k : ℕ) (xs ys : List E) (e : E) → Rises key 0 (key e) xs → entry_at key k (xs ++ e ∷ ys) ≡ cond (eqb (key e) k) (Some e) (entry_at key k (xs ++ ys))
  seat k xs ys e r = elim (tested (key e) k) as (λ v. entry_at key k (xs ++ e ∷ ys) ≡ cond (eqb (key e) k) (Some e) (entry_at key k (xs ++ ys))) [
    | inl t ↦ (let none : entry_at key k xs ≡ None = none-above 0 (key e) k xs r (omega (arith, t.1)) in
        rw t.0 (at-append k xs (e ∷ ys) none ∙ rw t.0 refl))
    | inr t ↦ rw t.0 (passed k xs ys e t.0)
  ]
    where
      passed : (k : ℕ) (xs ys : List E) (e : E) → eqb (key e) k ≡ false → entry_at key k (xs ++ e ∷ ys) ≡ entry_at key k (xs ++ ys)
      passed k [] ys e ne = rw ne refl
      passed k (x ∷ xs) ys e ne = ap (λ (o : Option E). cond (eqb (key x) k) (Some x) o) (passed k xs ys e ne)

  -- the keys at places
  pub from-low : (low high : ℕ) (es : List E) (i : ℕ) (d : E) → Rises key low high es → i < length es → low ≤ key (get_or es i d)
  from-low low high [] i d r within = absurd (omega (arith, within))
  from-low low high (e ∷ es) zero d r within = r.0
  from-low low high (e ∷ es) (suc i) d r within =
      let here : low ≤ key e = r.0 in
      let later : key e + 1 ≤ key (get_or es i d) = from-low (key e + 1) high es i d r.1 (omega (arith, within)) in
      omega (arith, here, later)

  pub in-order : (low high : ℕ) (es : List E) (i j : ℕ) (d : E) → Rises key low high es → i ≤ j → j < length es → key (get_or es i d) ≤ key (get_or es j d)
  in-order low high [] i j d r less within = absurd (omega (arith, within))
  in-order low high (e ∷ es) zero zero d r less within = omega arith
  in-order low high (e ∷ es) (suc i) zero d r less within = absurd (omega (arith, less))
  in-order low high (e ∷ es) zero (suc j) d r less within =
      let later : key e + 1 ≤ key (get_or es j d) = from-low (key e + 1) high es j d r.1 (omega (arith, within)) in
      omega (arith, later)
  in-order low high (e ∷ es) (suc i) (suc j) d r less within = in-order (key e + 1) high es i j d r.1 (omega (arith, less)) (omega (arith, within))

  -- cut where a key is to stand
  pub cut-below : (low high k : ℕ) (es : List E) (i : ℕ) → Rises key low high es → low ≤ k → i ≤ length es → ((j : ℕ) (d : E) → j < i → key (get_or es j d) < k) → Rises key low k (take i es)
  cut-below low high k es zero r less within below = less
  cut-below low high k [] (suc i) r less within below = less
  cut-below low high k (e ∷ es) (suc i) r less within below =
      let here : key e < k = below 0 e (omega arith) in
      (r.0, cut-below (key e + 1) high k es i r.1 (omega (arith, here)) (omega (arith, within)) (λ j d in_front. below (suc j) d (omega (arith, in_front))))

  pub cut-above : (low high k : ℕ) (es : List E) (i : ℕ) → Rises key low high es → k ≤ high → i ≤ length es → ((j : ℕ) (d : E) → i ≤ j → j < length es → k ≤ key (get_or es j d)) → Rises key k high (drop i es)
  cut-above low high k [] zero r less within above = less
  cut-above low high k [] (suc i) r less within above = less
  cut-above low high k (e ∷ es) zero r less within above = (above 0 e (omega arith) (omega arith), r.1)
  cut-above low high k (e ∷ es) (suc i) r less within above =
      cut-above (key e + 1) high k es i r.1 less (omega (arith, within)) (λ j d from to. above (suc j) d (omega (arith, from)) (omega (arith, to)))

  -- the keys before a place are lower than that there
  pub rises-before : (low high : ℕ) (es : List E) (i : ℕ) (d : E) → Rises key low high es → i < length es → Rises key low (key (get_or es i d)) (take i es)
  rises-before low high [] i d r within = absurd (omega (arith, within))
  rises-before low high (e ∷ es) zero d r within = r.0
  rises-before low high (e ∷ es) (suc i) d r within = (r.0, rises-before (key e + 1) high es i d r.1 (omega (arith, within)))

  -- and of a list without its last
  pub rises-front : (low high : ℕ) (es : List E) (e : E) → Rises key low high (es ++ e ∷ []) → Rises key low (key e) es × (key e + 1 ≤ high)
  rises-front low high [] e r = (r.0, r.1)
  rises-front low high (x ∷ es) e r = let rest = rises-front (key x + 1) high es e r.1 in ((r.0, rest.0), rest.1)

  -- one more entry at the end
  pub at-push : (k : ℕ) (es : List E) (e : E) → Rises key 0 (key e) es → entry_at key k (es ++ e ∷ []) ≡ cond (eqb (key e) k) (Some e) (entry_at key k es)
  at-push k es e r = seat k es [] e r ∙ ap (λ (xs : List E). cond (eqb (key e) k) (Some e) (entry_at key k xs)) (append-nil es)

  pub rises-push : (low high : ℕ) (es : List E) (e : E) → Rises key low (key e) es → key e + 1 ≤ high → Rises key low high (es ++ e ∷ [])
  rises-push low high es e r less = rises-append low (key e) high es (e ∷ []) r (omega arith, less)

  -- an entry that is found has the key
  pub found-key : (k : ℕ) (es : List E) (e : E) → entry_at key k es ≡ Some e → key e ≡ k
  found-key k [] e found = cc
  found-key k (x ∷ es) e found = elim (tested (key x) k) as (λ v. key e ≡ k) [
    | inl t ↦ (let is : Some x ≡ Some e = subst (λ (b : _). cond b (Some x) (entry_at key k es) ≡ Some e) t.0 found in let same : x ≡ e = cc in sym (ap key same) ∙ t.1)
    | inr t ↦ found-key k es e (subst (λ (b : _). cond b (Some x) (entry_at key k es) ≡ Some e) t.0 found)
  ]

  -- what holds of each entry that is found under its key holds of all
  pub each-found : (P : E → Type 0) (low high : ℕ) (es : List E) → Rises key low high es → ((k : ℕ) (e : E) → entry_at key k es ≡ Some e → P e) → All P es
  each-found P low high [] r found = All-nil P
  each-found P low high (e ∷ es) r found =
      All-cons P e es (found (key e) e (rw (eq-eqb (key e) (key e) refl) refl))
      (each-found P (key e + 1) high es r.1 (λ k x at. found k x (rw (ne_eqb (key e) k (below k x at)) at)))
    where
      below : (k : ℕ) (x : E) → entry_at key k es ≡ Some x → key e ≡ k → ⊥
      below k x at same = not-both x (sym (none-below (key e + 1) high k es r.1 (omega (arith, same))) ∙ at)
        where
          not-both : (x : E) → None ≡ Some x → ⊥
          not-both x h = cc
