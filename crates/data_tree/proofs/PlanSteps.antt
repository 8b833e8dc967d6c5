-- The steps of a plan's making.
use Rattle.std.proofs.Common.{◌≡◌, ℕ, zero, suc, ◌+◌, ◌-◌, ◌<◌, ◌≤◌, min, List, [], ◌∷◌, ◌++◌, length, map, take, drop, get_or, refl, sym, ap, ◌∙◌, arith, append_assoc, append-nil}
use Rattle.std.specs.List.{All}
use Rattle.std.proofs.lemmas.List.Elements.{All-append, All-cons, All-nil}
use Rattle.pst_base.specs.declared.ids.Bid.{Bid}
use Rattle.data_tree.specs.Plan.{bytes_in, contents, cut, last_id, numbered, xblock}
use Rattle.data_tree.proofs.PieceLaws.{cut-none, cut-front}

-- the last id is that at the last place
pub last_id-at : (blocks : List (Bid × List ℕ)) (d : Bid × List ℕ) → 0 < length blocks → ((get_or blocks (length blocks - 1) d).0).bits ≡ last_id blocks
last_id-at [] d some = absurd (omega arith)
last_id-at (block ∷ []) d some = refl
last_id-at (block ∷ (next ∷ blocks)) d some =
    let e : length (block ∷ (next ∷ blocks)) - 1 ≡ suc (length (next ∷ blocks) - 1) = omega arith in
    ap (λ (i : ℕ). ((get_or (block ∷ (next ∷ blocks)) i d).0).bits) e ∙ last_id-at (next ∷ blocks) d (omega arith)

-- a part of some blocks has no more bytes than all
pub bytes_in-take : (n : ℕ) (blocks : List (Bid × List ℕ)) → bytes_in (contents (take n blocks)) ≤ bytes_in (contents blocks)
bytes_in-take zero blocks = omega arith
bytes_in-take (suc n) [] = omega arith
bytes_in-take (suc n) (block ∷ blocks) = let e = bytes_in-take n blocks in omega arith

pub bytes_in-drop : (n : ℕ) (blocks : List (Bid × List ℕ)) → bytes_in (contents (drop n blocks)) ≤ bytes_in (contents blocks)
bytes_in-drop zero blocks = omega arith
bytes_in-drop (suc n) [] = omega arith
bytes_in-drop (suc n) (block ∷ blocks) = let e = bytes_in-drop n blocks in omega arith

-- one more block of level 1
pub lists-step : (bits n : ℕ) (out rest here others : List (Bid × List ℕ)) (block : List ℕ) (whole : List (Bid × List ℕ))
    → 0 < length rest → n ≡ min 1021 (length rest) → here ≡ take n rest → others ≡ drop n rest → block ≡ xblock here
    → out ++ numbered 2 bits (map xblock (cut 1021 rest)) ≡ whole
    → (out ++ (record { bits = bits + 2 }, block) ∷ []) ++ numbered 2 (bits + 4) (map xblock (cut 1021 others)) ≡ whole
lists-step bits n out rest here others block whole some is first later made so_far =
    let whole_cut : cut 1021 rest ≡ here ∷ cut 1021 others = cut-front 1021 n rest here others (omega arith) some is first later in
    append_assoc out ((record { bits = bits + 2 }, block) ∷ []) (numbered 2 (bits + 4) (map xblock (cut 1021 others)))
    ∙ ap (λ (b : List ℕ). out ++ (record { bits = bits + 2 }, b) ∷ numbered 2 (bits + 4) (map xblock (cut 1021 others))) made
    ∙ ap (λ (parts : List (List (Bid × List ℕ))). out ++ numbered 2 bits (map xblock parts)) (sym whole_cut) ∙ so_far

pub lists-end : (bits : ℕ) (out rest whole : List (Bid × List ℕ)) → length rest ≤ 0 → out ++ numbered 2 bits (map xblock (cut 1021 rest)) ≡ whole → out ≡ whole
lists-end bits out rest whole none so_far =
    sym (append-nil out) ∙ ap (λ (parts : List (List (Bid × List ℕ))). out ++ numbered 2 bits (map xblock parts)) (sym (cut-none 1021 rest (omega arith) none)) ∙ so_far

-- one more block, which isn't too large
pub small-push : (bs : List (List ℕ)) (b : List ℕ) → All (λ (x : List ℕ). length x ≤ 8176) bs → length b ≤ 8176 → All (λ (x : List ℕ). length x ≤ 8176) (bs ++ b ∷ [])
small-push bs b all small =
    let P : List ℕ → Type 0 = λ x. length x ≤ 8176 in
    All-append P bs (b ∷ []) all (All-cons P b [] small (All-nil P))

pub bytes_in-push : (bs : List (List ℕ)) (b : List ℕ) → bytes_in (bs ++ b ∷ []) ≡ bytes_in bs + length b
bytes_in-push [] b = omega arith
bytes_in-push (first ∷ bs) b = let e = bytes_in-push bs b in omega arith
