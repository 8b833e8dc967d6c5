-- The blocks of long bytes.
use Rattle.std.proofs.Common.{◌≡◌, ℕ, zero, suc, ◌+◌, ◌-◌, ◌*◌, ◌/◌, ◌<◌, ◌≤◌, List, [], ◌∷◌, ◌++◌, length, min, take, drop, refl, sym, ap, ◌∙◌, inl, inr, append_assoc, length-drop, arith}
use Rattle.std.specs.List.{concat}
use Rattle.std.proofs.lemmas.Bool.{cases_lt}
use Rattle.std.proofs.lemmas.List.{drop_all, take-append-drop, take_all}
use Rattle.node_values.specs.Named.{pieces, pieces_of}

pub pieces-none : pieces [] ≡ []
unfolding pieces
pieces-none = refl

pub pieces-more : (b : List ℕ) → 0 < length b → pieces b ≡ take 8176 b ∷ pieces (drop 8176 b)
unfolding pieces
pieces-more b h =
    let len : length (drop 8176 b) ≡ length b - 8176 = length-drop 8176 b in
    let count : (length b + 8175) / 8176 ≡ suc ((length (drop 8176 b) + 8175) / 8176) = omega (arith, len) in
    rw count refl

-- one block more, of 8176 bytes or of all that are left
pub pieces-step : (out : List (List ℕ)) (b : List ℕ) (n : ℕ) → 0 < length b → n ≡ min (length b) 8176 → (out ++ take n b ∷ []) ++ pieces (drop n b) ≡ out ++ pieces b
pieces-step out b n h is =
    append_assoc out (take n b ∷ []) (pieces (drop n b)) ∙ ap (λ (bs : List (List ℕ)). out ++ bs) (first b n h is)
  where
    first : (b : List ℕ) (n : ℕ) → 0 < length b → n ≡ min (length b) 8176 → take n b ∷ pieces (drop n b) ≡ pieces b
    first b n h is = elim (cases_lt (length b) 8176) [
      | inl low ↦
          ap (λ (x : List ℕ). x ∷ pieces (drop n b)) (take_all n b (omega arith) ∙ sym (take_all 8176 b (omega arith)))
          ∙ ap (λ (y : List ℕ). take 8176 b ∷ pieces y) (drop_all n b (omega arith) ∙ sym (drop_all 8176 b (omega arith))) ∙ sym (pieces-more b h)
      | inr high ↦ let e : n ≡ 8176 = omega arith in rw e (sym (pieces-more b h))
    ]

concat-pieces_of : (n : ℕ) (b : List ℕ) → length b ≤ 8176 * n → concat (pieces_of n b) ≡ b
concat-pieces_of zero [] h = refl
concat-pieces_of zero (x ∷ b) h = absurd (omega arith)
concat-pieces_of (suc n) b h =
    let len : length (drop 8176 b) ≡ length b - 8176 = length-drop 8176 b in
    ap (λ (c : List ℕ). take 8176 b ++ c) (concat-pieces_of n (drop 8176 b) (omega (arith, len))) ∙ take-append-drop 8176 b

-- the blocks joined are the bytes
pub concat-pieces : (b : List ℕ) → concat (pieces b) ≡ b
unfolding pieces
concat-pieces b = concat-pieces_of ((length b + 8175) / 8176) b (omega arith)
