-- The groups of rows, run by run.
use Rattle.std.proofs.Common.{◌≡◌, ◌∙◌, ℕ, suc, true, List, [], ◌∷◌, ◌≤◌, ◌+◌, ◌-◌, arith, drop, get_or, length, length-drop, take, take_all, Option, None, Some, ap, inl, inr, refl, sym}
use Rattle.std.proofs.lemmas.Bool.{cases_Bool}
use Rattle.std.proofs.lemmas.Cmp.{on_total, then_total}
use Rattle.std.specs.Cmp.Lexicographic.{nat_list_cmp_total}
use Rattle.std.specs.Cmp.{IsTotalOrder, nat_cmp_total}
use Rattle.std.specs.Ordering.{is_eq}
use Rattle.std.specs.declared.cmp.Ordering.{Ordering}
use Rattle.std.specs.declared.cmp.Ordering.TheVariants.{Less, Equal, Greater}
use Rattle.sorted_views.specs.Groups.{groups, joined, same_front, same_key}
use Rattle.sorted_views.specs.Rows.{key_cmp}
use Rattle.sorted_views.specs.declared.key.Key.{Key}
use Rattle.sorted_views.specs.declared.rows.ViewRow.{ViewRow}

-- the order of keys that are there
keys_total : IsTotalOrder (λ (a b : Key). key_cmp (Some a) (Some b))
keys_total = then_total (on_total (λ (k : Key). k.number) nat_cmp_total) (on_total (λ (k : Key). k.units.items) nat_list_cmp_total)

-- equal keys are equal to the same keys
alike : (a b z : Option Key) → key_cmp a b ≡ Equal → key_cmp a z ≡ key_cmp b z
alike None None z e = refl
alike None (Some b) z e = cc
alike (Some a) None z e = cc
alike (Some a) (Some b) None e = refl
alike (Some a) (Some b) (Some z) e = keys_total.congr a b z e

-- an order that says equal is
equal_is : (o : Ordering) → is_eq o ≡ true → o ≡ Equal
equal_is Less e = cc
equal_is Equal e = refl
equal_is Greater e = cc

same_alike : (a b z : ViewRow) → same_key a b ≡ true → same_key a z ≡ same_key b z
same_alike a b z e = ap is_eq (alike a.key b.key z.key (equal_is _ e))

-- so are those in front that have them
fronts_alike : (a b : ViewRow) (rows : List ViewRow) → same_key a b ≡ true → same_front a rows ≡ same_front b rows
fronts_alike a b [] e = refl
fronts_alike a b (r ∷ rows) e = rw (same_alike a b r e, fronts_alike a b rows e) refl

-- the first group is the rows in front that have its key
pub by_runs : (row : ViewRow) (rows : List ViewRow) → groups (row ∷ rows) ≡ (row, suc (same_front row rows)) ∷ groups (drop (same_front row rows) rows)
by_runs row [] = refl
by_runs row (r ∷ rs) = elim (cases_Bool (same_key row r)) [
  | inl same ↦ ap (joined row) (by_runs r rs) ∙ rw (same, fronts_alike row r rs same) refl
  | inr other ↦ ap (joined row) (by_runs r rs) ∙ rw other (ap (λ gs. (row, 1) ∷ gs) (sym (by_runs r rs)))
]

-- what stands behind a place
behind : {X : Type 0} (xs : List X) (k n : ℕ) → n ≡ length xs - k → take n (drop k xs) ≡ drop k xs
behind xs k n e = take_all n (drop k xs) (omega (arith, length-drop k xs, e))

-- the first group of rows whose first one is this
pub first_group : (rows : List ViewRow) (first : ViewRow) (n : ℕ) → 1 ≤ length rows → first ≡ get_or rows 0 first → n ≡ same_front first (take (length rows - 1) (drop 1 rows))
    → groups rows ≡ (first, 1 + n) ∷ groups (take (length (take (length rows - 1) (drop 1 rows)) - n) (drop n (take (length rows - 1) (drop 1 rows))))
first_group [] first n h is e = absurd (omega (arith, h))
first_group (r ∷ rs) first n h is e =
    let rest = behind (r ∷ rs) 1 (length (r ∷ rs) - 1) refl in
    let count = e ∙ ap (same_front first) rest in
    ap (λ x. groups (x ∷ rs)) (sym is) ∙ by_runs first rs
    ∙ ap (λ k. (first, suc k) ∷ groups (drop k rs)) (sym count)
    ∙ ap (λ gs. (first, suc n) ∷ groups gs) (sym (ap (λ xs. take (length xs - n) (drop n xs)) rest ∙ behind rs n (length rs - n) refl))
    ∙ ap (λ k. (first, k) ∷ groups (take (length (take (length (r ∷ rs) - 1) (drop 1 (r ∷ rs))) - n) (drop n (take (length (r ∷ rs) - 1) (drop 1 (r ∷ rs)))))) (omega arith)
