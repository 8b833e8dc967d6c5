-- What one more item counts for, and its half block.
use Rattle.std.proofs.Common.{◌≡◌, ◌≤◌, ◌+◌, ◌-◌, ◌*◌, if◌then◌else◌, ℕ, Bool, true, false, List, [], ◌∷◌, ◌++◌, length, refl, arith}
use Rattle.std.proofs.lemmas.List.{get_or_push, length_push}
use Rattle.heap_on_node.specs.Packing.{halves, has_half, spend, spread, spread_of}

-- ---- what items count for

spread_of-push : (xs : List (List ℕ)) (x : List ℕ) → spread_of (xs ++ x ∷ []) ≡ spread_of xs + spend x
spread_of-push [] x = omega arith
spread_of-push (y ∷ ys) x = omega (arith, spread_of-push ys x)

spread-push : (gs : List (List (List ℕ))) (g : List (List ℕ)) → spread (gs ++ g ∷ []) ≡ spread gs + spread_of g
spread-push [] g = omega arith
spread-push (f ∷ fs) g = omega (arith, spread-push fs g)

-- one more item in the last group
pub spent-in_last : (F : List (List (List ℕ))) (L : List (List ℕ)) (x : List ℕ) → spread (F ++ (L ++ x ∷ []) ∷ []) ≡ spread (F ++ L ∷ []) + spend x
spent-in_last F L x = omega (arith, spread-push F (L ++ x ∷ []), spread-push F L, spread_of-push L x)

-- an item in a new group
pub spent-in_new : (G : List (List (List ℕ))) (x : List ℕ) → spread (G ++ (x ∷ []) ∷ []) ≡ spread G + spend x
spent-in_new G x = omega (arith, spread-push G (x ∷ []))

-- ---- halves

pub halves-push : (F : List (List (List ℕ))) (L : List (List ℕ)) → halves (F ++ L ∷ []) ≡ 2 * (length F + 1) - (if has_half (length F) L then 1 else 0)
unfolding halves
halves-push F L =
    let e : length F + 1 - 1 ≡ length F = omega arith in
    rw (length_push F L, e, get_or_push F L [] (length F) refl) refl

-- each item takes half a block at most
pub half-in_last : (F : List (List (List ℕ))) (L : List (List ℕ)) (x : List ℕ) → halves (F ++ (L ++ x ∷ []) ∷ []) ≤ halves (F ++ L ∷ []) + 1
half-in_last F L x = rw (halves-push F (L ++ x ∷ []), halves-push F L) (apart (length F) (has_half (length F) (L ++ x ∷ [])) (has_half (length F) L))
  where
    apart : (n : ℕ) (a b : Bool) → 2 * (n + 1) - (if a then 1 else 0) ≤ 2 * (n + 1) - (if b then 1 else 0) + 1
    apart n true true = omega arith
    apart n true false = omega arith
    apart n false true = omega arith
    apart n false false = omega arith
