-- How often keys stand in lists.
use Rattle.std.proofs.Common.{◌≡◌, ◌<◌, ◌≤◌, ℕ, ◌+◌, cond, eqb, List, [], ◌∷◌, ◌++◌, length, take, refl, sym, ap, ◌∙◌, arith}
use Rattle.std.specs.List.{sum_by}
use Rattle.std.specs.List.Sorted.{IsPermutation}
use Rattle.std.proofs.lemmas.List.Sums.{sum_by-cons}
use Rattle.std.proofs.lemmas.List.Sorted.{sum_by-IsPermutation}
use Rattle.std.proofs.Common.{inl, inr, get_or}
use Rattle.std.proofs.lemmas.List.{take_more}
use Rattle.data_tree.specs.Keys.{count_of}
use Rattle.ref_counts.proofs.TableLaws.{tested}

-- as a sum
as-sum : (key : ℕ) (ks : List ℕ) → count_of key ks ≡ sum_by (λ (k : ℕ). cond (eqb k key) 1 0) ks
as-sum key [] = refl
as-sum key (k ∷ ks) = ap (λ (n : ℕ). cond (eqb k key) 1 0 + n) (as-sum key ks) ∙ sym (sum_by-cons (λ (x : ℕ). cond (eqb x key) 1 0) k ks)

-- in any order
pub count-permuted : (key : ℕ) (xs ys : List ℕ) → IsPermutation xs ys → count_of key ys ≡ count_of key xs
count-permuted key xs ys p = as-sum key ys ∙ sum_by-IsPermutation (λ (k : ℕ). cond (eqb k key) 1 0) xs ys p ∙ sym (as-sum key xs)

-- one list behind another
pub count-append : (key : ℕ) (xs ys : List ℕ) → count_of key (xs ++ ys) ≡ count_of key xs + count_of key ys
count-append key [] ys = omega arith
count-append key (x ∷ xs) ys = let rest = count-append key xs ys in omega (arith, rest)

-- no more often than there are keys
pub count-few : (key : ℕ) (xs : List ℕ) → count_of key xs ≤ length xs
count-few key [] = omega arith
count-few key (x ∷ xs) = let rest = count-few key xs in elim (tested x key) as (λ v. count_of key (x ∷ xs) ≤ length (x ∷ xs))
    [ inl t ↦ rw t.0 (omega (arith, rest)) | inr t ↦ rw t.0 (omega (arith, rest)) ]

-- one more of a list
pub count-more : (key : ℕ) (xs : List ℕ) (i : ℕ) → i < length xs → count_of key (take (i + 1) xs) ≡ cond (eqb (get_or xs i 0) key) 1 0 + count_of key (take i xs)
count-more key xs i within =
    let whole = ap (λ (ys : List ℕ). count_of key ys) (take_more xs i 0 within) ∙ count-append key (take i xs) (get_or xs i 0 ∷ []) in
    omega (arith, whole)
