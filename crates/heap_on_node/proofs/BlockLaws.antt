-- How many blocks the items of a packed heap take.
use Rattle.std.proofs.Common.{◌≡◌, ◌≤◌, ◌<◌, ◌==◌, ◌+◌, ◌-◌, ◌*◌, ◌/◌, ◌%◌, inl, inr, ℕ, zero, suc, true, false, List, [], ◌∷◌, ◌++◌, length, get_or, sym, ap, ◌∙◌, length-append, arith}
use Rattle.std.proofs.lemmas.Bool.{cases_Bool, cases_lt, eqb-true}
use Rattle.std.specs.List.{concat}
use Rattle.heap_on_node.specs.Packing.{IsPacked, fit_block, halves, has_half, has_room, head_size, spread, spread_of}
use Rattle.heap_on_node.proofs.PackingLaws.{fit_block-push, head-bounds, room-from}

-- items count for their bytes and 2 each, and for 4 each
spread-bytes : (xs : List (List ℕ)) → length (concat xs) + 2 * length xs ≤ spread_of xs
spread-bytes [] = omega arith
spread-bytes (x ∷ xs) = omega (arith, spread-bytes xs, length-append x (concat xs))

spread-count : (xs : List (List ℕ)) → 4 * length xs ≤ spread_of xs
spread-count [] = omega arith
spread-count (x ∷ xs) = omega (arith, spread-count xs)

-- and for the bytes of the first once more, but for 2
first-bytes : (xs : List (List ℕ)) → length (concat xs) + 2 * length xs + length (get_or xs 0 []) ≤ spread_of xs + 2
first-bytes [] = omega arith
first-bytes (x ∷ xs) = omega (arith, spread-bytes xs, length-append x (concat xs))

first-count : (xs : List (List ℕ)) → 4 * length xs + length (get_or xs 0 []) ≤ spread_of xs + 4
first-count [] = omega arith
first-count (x ∷ xs) = omega (arith, spread-count xs)

first-alone : (xs : List (List ℕ)) → length (get_or xs 0 []) ≤ spread_of xs
first-alone [] = omega arith
first-alone (x ∷ xs) = omega arith

true-false : true ≡ false → ⊥
true-false e = cc

-- a block that has no room for one more item is paid for
pays : (k : ℕ) (g : List (List ℕ)) (x : List ℕ) → fit_block k (g ++ x ∷ []) ≡ false → 8167 + length (get_or g 0 []) ≤ spread_of g + length x + head_size k
pays k g x full =
    let none : has_room k (length g + 1) (length (concat g) + length x) ≡ false = sym (fit_block-push k g x) ∙ full in
    let head = head-bounds k in
    let even = head.2 in
    elim (cases_lt 2047 (length g + 1)) [
      | inl many ↦ omega (arith, first-count g)
      | inr few ↦ elim (cases_lt 8176 (head_size k + (length (concat g) + length x) + (length (concat g) + length x) % 2 + 6 + 2 * (length g + 1))) [
        | inl long ↦ omega (arith, first-bytes g, long, even)
        | inr short ↦ absurd (true-false (sym (room-from k (length g + 1) (length (concat g) + length x) few short) ∙ none))
      ]
    ]

-- the bytes before the items of so many blocks, from block k on
heads : ℕ → ℕ → ℕ
heads k zero = 0
heads k (suc n) = head_size k + heads (k + 1) n

heads-from : (k n : ℕ) → 0 < k → heads k n + 2 * k + 64 * ((k + 119) / 128) ≤ 2 * (k + n) + 64 * ((k + n + 119) / 128)
unfolding heads
heads-from k zero some = omega arith
heads-from k (suc n) some =
    let rest = heads-from (k + 1) n (omega arith) in
    elim (cases_Bool (k == 0)) [
      | inl t ↦ absurd (omega (arith, eqb-true k 0 t))
      | inr f ↦ elim (cases_Bool (k % 128 == 8)) [
        | inl t ↦ let e = eqb-true (k % 128) 8 t in rw (f, t) (omega (arith, rest, e))
        | inr f1 ↦ rw (f, f1) (omega (arith, rest))
      ]
    ]

heads-few : (n : ℕ) → heads 0 n ≤ 7 * n + 29
unfolding heads
heads-few zero = omega arith
heads-few (suc n) = omega (arith, heads-from 1 n (omega arith))

-- from block k on, the first item of each group but the first has no room in the block before
abbrev Tight : ℕ → List (List (List ℕ)) → Type 0
Tight k gs = (i : ℕ) → i + 1 < length gs → fit_block (k + i) (get_or gs i [] ++ get_or (get_or gs (i + 1) []) 0 [] ∷ []) ≡ false

pays-all : (k : ℕ) (g : List (List ℕ)) (gs : List (List (List ℕ))) → Tight k (g ∷ gs) → 8167 * length gs + length (get_or g 0 []) ≤ spread (g ∷ gs) + heads k (length gs)
unfolding heads
pays-all k g [] tight = omega (arith, first-alone g)
pays-all k g (f ∷ fs) tight =
    let e : k + 0 ≡ k = omega arith in
    let here = pays k g (get_or f 0 []) (ap (λ (n : ℕ). fit_block n (g ++ get_or f 0 [] ∷ [])) (sym e) ∙ tight 0 (omega arith)) in
    let next = pays-all (k + 1) f fs (λ i low.
    let j : k + 1 + i ≡ k + suc i = omega arith in
    let m : suc (i + 1) ≡ suc i + 1 = omega arith in
    ap (λ (n : ℕ). fit_block n (get_or (f ∷ fs) i [] ++ get_or (get_or (f ∷ fs) (i + 1) []) 0 [] ∷ [])) j
    ∙ ap (λ (n : ℕ). fit_block (k + suc i) (get_or (f ∷ fs) i [] ++ get_or (get_or (g ∷ (f ∷ fs)) n []) 0 [] ∷ [])) m ∙ tight (suc i) (omega arith)) in
    omega (arith, here, next)

-- a packed heap has at most a block for each 8160 of what its items count for, and one more
pub blocks-spread : (gs : List (List (List ℕ))) → IsPacked gs → 8160 * length gs ≤ spread gs + 8189
blocks-spread [] h = omega arith
blocks-spread (g ∷ gs) h = omega (
  arith,
  pays-all 0 g gs (λ i low.
      let e : i ≡ 0 + i = omega arith in
      ap (λ (n : ℕ). fit_block n (get_or (g ∷ gs) i [] ++ get_or (get_or (g ∷ gs) (i + 1) []) 0 [] ∷ [])) (sym e) ∙ h.tight i low),
  heads-few (length gs),
)

-- no heap has more blocks than halves allow
pub blocks-halves : (gs : List (List (List ℕ))) → 2 * length gs ≤ halves gs + 1
unfolding halves
blocks-halves gs = elim (cases_Bool (has_half (length gs - 1) (get_or gs (length gs - 1) []))) [ inl t ↦ rw t (omega arith) | inr f ↦ rw f (omega arith) ]

-- nor more halves than two for each block
pub halves-blocks : (gs : List (List (List ℕ))) → halves gs ≤ 2 * length gs
unfolding halves
halves-blocks gs = omega arith
