-- The entry of a key, put in its place, and entries dropped.
use Rattle.std.proofs.Common.{◌≡◌, ◌<◌, ◌≤◌, ℕ, suc, ◌+◌, ◌^◌, Bool, not, cond, eqb, List, [], ◌∷◌, ◌++◌, length, get_or, take, drop, set, None, Some, refl, sym, ap, ◌∙◌, subst, inl, inr, arith}
use Rattle.std.specs.List.{insert, filter}
use Rattle.std.proofs.lemmas.Bool.{eq-eqb}
use Rattle.std.proofs.lemmas.List.{set_split, take-append-drop}
use Rattle.std.proofs.Math.Seq.{drop-cons}
use Rattle.ref_counts.specs.Tables.{Rises, IsAscending, entry_at, first, number_of, refs_in, HasKey, KeepsKeys, StandsAt, IsMissing}
use Rattle.ref_counts.proofs.TableLaws.{tested, seat, at-append, none-above, none-below, rises-append, rises-lower}

-- the entry that a place has
pub stands : (es : List (ℕ × ℕ)) (key at : ℕ) (d : ℕ × ℕ) → at < length es → (get_or es at d).0 ≡ key → key < 2 ^ 64 → Rises first 0 key (take at es) → Rises first key (2 ^ 64) (drop at es) → StandsAt es key at
stands es key at d within same small below above =
    let e : ℕ × ℕ = get_or es at d in
    let cut : drop at es ≡ e ∷ drop (suc at) es = drop-cons es at d within in
    let rest : Rises first key (2 ^ 64) (e ∷ drop (suc at) es) = subst (λ (xs : List (ℕ × ℕ)). Rises first key (2 ^ 64) xs) cut above in
    let is : e ≡ (key, e.1) = ap (λ (k : ℕ). let p : ℕ × ℕ = (k, e.1) in p) same in
    record {
      number = e.1;
      within = within;
      split = sym (take-append-drop at es) ∙ ap (λ (xs : List (ℕ × ℕ)). take at es ++ xs) (cut ∙ ap (λ (x : ℕ × ℕ). x ∷ drop (suc at) es) is);
      below = below;
      above = subst (λ (k : ℕ). Rises first (k + 1) (2 ^ 64) (drop (suc at) es)) same rest.1;
    }

-- ---- a key that is there

module _ (es : List (ℕ × ℕ)) (key at : ℕ) (s : StandsAt es key at) where
  at-seat : (k : ℕ) → entry_at first k es ≡ cond (eqb key k) (Some (key, s.number)) (entry_at first k (take at es ++ drop (suc at) es))
  at-seat k = ap (λ (xs : List (ℕ × ℕ)). entry_at first k xs) s.split ∙ seat first k (take at es) (drop (suc at) es) (key, s.number) s.below

  set-seat : (k m : ℕ) → entry_at first k (set es at (key, m)) ≡ cond (eqb key k) (Some (key, m)) (entry_at first k (take at es ++ drop (suc at) es))
  set-seat k m = ap (λ (xs : List (ℕ × ℕ)). entry_at first k xs) (set_split es at (key, m) s.within) ∙ seat first k (take at es) (drop (suc at) es) (key, m) s.below

  pub found-here : entry_at first key es ≡ Some (key, s.number)
  found-here = at-seat key ∙ rw (eq-eqb key key refl) refl

  pub number-here : refs_in es key ≡ s.number
  number-here = ap number_of found-here

  pub refs-set : (k m : ℕ) → refs_in (set es at (key, m)) k ≡ cond (eqb key k) m (refs_in es k)
  refs-set k m = elim (tested key k) as (λ v. refs_in (set es at (key, m)) k ≡ cond (eqb key k) m (refs_in es k)) [
    | inl t ↦ ap number_of (set-seat k m) ∙ rw t.0 refl
    | inr t ↦ ap number_of (set-seat k m) ∙ (rw t.0 (sym (ap number_of (at-seat k) ∙ rw t.0 refl)))
  ]

  pub kept-set : (k m : ℕ) → HasKey es k → HasKey (set es at (key, m)) k
  kept-set k m has = elim (tested key k) as (λ v. HasKey (set es at (key, m)) k) [
    | inl t ↦ ((key, m), set-seat k m ∙ rw t.0 refl)
    | inr t ↦ (has.0, set-seat k m ∙ rw t.0 (sym (at-seat k ∙ rw t.0 refl) ∙ has.1))
  ]

  pub ascend-set : (m : ℕ) → IsAscending first (set es at (key, m))
  ascend-set m = rw (set_split es at (key, m) s.within) (rises-append first 0 key (2 ^ 64) (take at es) ((key, m) ∷ drop (suc at) es) s.below (omega arith, s.above))

-- the entry at the place has the number
pub number-there : (es : List (ℕ × ℕ)) (key at : ℕ) (d : ℕ × ℕ) (s : StandsAt es key at) → (get_or es at d).1 ≡ refs_in es key
number-there es key at d s =
    let cut : drop at es ≡ get_or es at d ∷ drop (suc at) es = drop-cons es at d s.within in
    let whole : take at es ++ (get_or es at d ∷ drop (suc at) es) ≡ take at es ++ ((key, s.number) ∷ drop (suc at) es) =
    ap (λ (xs : List (ℕ × ℕ)). take at es ++ xs) (sym cut) ∙ take-append-drop at es ∙ s.split in
    ap (λ (e : ℕ × ℕ). e.1) (same-front (take at es) (drop (suc at) es) (get_or es at d) (key, s.number) whole) ∙ sym (number-here es key at s)
  where
    same-front : (xs ys : List (ℕ × ℕ)) (a b : ℕ × ℕ) → xs ++ (a ∷ ys) ≡ xs ++ (b ∷ ys) → a ≡ b
    same-front [] ys a b h = cc
    same-front (x ∷ xs) ys a b h = same-front xs ys a b (let t : xs ++ (a ∷ ys) ≡ xs ++ (b ∷ ys) = cc in t)

-- ---- a key that isn't there

module _ (es : List (ℕ × ℕ)) (key at : ℕ) (s : IsMissing es key at) where
  pub none-here : entry_at first key es ≡ None
  none-here =
      ap (λ (xs : List (ℕ × ℕ)). entry_at first key xs) (sym (take-append-drop at es))
      ∙ at-append first key (take at es) (drop at es) (none-above first 0 key key (take at es) s.below (omega arith))
      ∙ none-below first (key + 1) (2 ^ 64) key (drop at es) s.above (omega arith)

  at-insert : (k m : ℕ) → entry_at first k (insert es at (key, m)) ≡ cond (eqb key k) (Some (key, m)) (entry_at first k es)
  at-insert k m = seat first k (take at es) (drop at es) (key, m) s.below ∙ ap (λ (xs : List (ℕ × ℕ)). cond (eqb key k) (Some (key, m)) (entry_at first k xs)) (take-append-drop at es)

  pub refs-insert : (k m : ℕ) → refs_in (insert es at (key, m)) k ≡ cond (eqb key k) m (refs_in es k)
  refs-insert k m = elim (tested key k) as (λ v. refs_in (insert es at (key, m)) k ≡ cond (eqb key k) m (refs_in es k)) [
    | inl t ↦ ap number_of (at-insert k m) ∙ rw t.0 refl
    | inr t ↦ ap number_of (at-insert k m) ∙ rw t.0 refl
  ]

  pub has-insert : (m : ℕ) → HasKey (insert es at (key, m)) key
  has-insert m = ((key, m), at-insert key m ∙ rw (eq-eqb key key refl) refl)

  kept-insert : (k m : ℕ) → HasKey es k → HasKey (insert es at (key, m)) k
  kept-insert k m has = elim (tested key k) as (λ v. HasKey (insert es at (key, m)) k) [
    | inl t ↦ ((key, m), at-insert k m ∙ rw t.0 refl)
    | inr t ↦ (has.0, at-insert k m ∙ rw t.0 has.1)
  ]

  pub ascend-insert : (m : ℕ) → IsAscending first (insert es at (key, m))
  ascend-insert m = rises-append first 0 key (2 ^ 64) (take at es) ((key, m) ∷ drop at es) s.below (omega arith, s.above)

  -- with the number 0 all numbers stay
  pub insert-keeps : KeepsKeys es (insert es at (key, 0))
  insert-keeps = record { same = still; kept = λ k has. kept-insert k 0 has }
    where
      still : (k : ℕ) → refs_in (insert es at (key, 0)) k ≡ refs_in es k
      still k = elim (tested key k) as (λ v. refs_in (insert es at (key, 0)) k ≡ refs_in es k) [
        | inl t ↦ refs-insert k 0 ∙ rw t.0 (sym (ap number_of (subst (λ (q : ℕ). entry_at first q es ≡ None) t.1 none-here)))
        | inr t ↦ refs-insert k 0 ∙ rw t.0 refl
      ]

-- ---- entries dropped

-- an entry is in use
abbrev pub in_use : ℕ × ℕ → Bool
in_use e = not (eqb e.1 0)

pub rises-used : (low high : ℕ) (es : List (ℕ × ℕ)) → Rises first low high es → Rises first low high (filter in_use es)
rises-used low high [] r = r
rises-used low high (e ∷ es) r = elim (tested e.1 0) as (λ v. Rises first low high (filter in_use (e ∷ es))) [
  | inl t ↦ rw t.0 (let here : low ≤ e.0 = r.0 in rises-lower first (e.0 + 1) low high (filter in_use es) (omega (arith, here)) (rises-used (e.0 + 1) high es r.1))
  | inr t ↦ rw t.0 (r.0, rises-used (e.0 + 1) high es r.1)
]

pub refs-used : (low high k : ℕ) (es : List (ℕ × ℕ)) → Rises first low high es → refs_in (filter in_use es) k ≡ refs_in es k
refs-used low high k [] r = refl
refs-used low high k (e ∷ es) r = elim (tested e.1 0) as (λ v. refs_in (filter in_use (e ∷ es)) k ≡ refs_in (e ∷ es) k) [
  | inl t ↦ rw t.0 (elim (tested e.0 k) as (λ v. refs_in (filter in_use es) k ≡ refs_in (e ∷ es) k) [
    | inl s ↦ rw s.0 (refs-used (e.0 + 1) high k es r.1 ∙ ap number_of (none-below first (e.0 + 1) high k es r.1 (omega (arith, s.1))) ∙ sym t.1)
    | inr s ↦ rw s.0 (refs-used (e.0 + 1) high k es r.1)
  ])
  | inr t ↦ rw t.0 (elim (tested e.0 k) as (λ v. number_of (cond (eqb e.0 k) (Some e) (entry_at first k (filter in_use es))) ≡ number_of (cond (eqb e.0 k) (Some e) (entry_at first k es))) [
    | inl s ↦ rw s.0 refl
    | inr s ↦ rw s.0 (refs-used (e.0 + 1) high k es r.1)
  ])
]
