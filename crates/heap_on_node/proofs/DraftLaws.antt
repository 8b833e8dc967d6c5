-- A run of bytes cut into items, with one more item behind.
use Rattle.std.proofs.Common.{◌≡◌, ◌≤◌, ℕ, List, [], ◌∷◌, ◌++◌, length, map, take, drop, refl, sym, ap, ◌∙◌, append_assoc, length-take, arith}
use Rattle.std.proofs.lemmas.List.{append-nil, take-append-drop, append_cancel_left, take-append-le, drop-append-le, take_all, map_push}
use Rattle.std.specs.List.{concat}
use Rattle.heap_on_node.specs.Layout.{cut}

pub concat-append : (xs ys : List (List ℕ)) → concat (xs ++ ys) ≡ concat xs ++ concat ys
concat-append [] ys = refl
concat-append (x ∷ xs) ys = ap (λ (zs : List ℕ). x ++ zs) (concat-append xs ys) ∙ sym (append_assoc x (concat xs) (concat ys))

-- the pieces are the bytes, and their sizes the numbers
abbrev pub IsCut : List ℕ → List ℕ → Type 0
IsCut ns bs = (concat (cut ns bs) ≡ bs) × (map length (cut ns bs) ≡ ns)

pub cut-push : (ns bs xs : List ℕ) → IsCut ns bs → cut (ns ++ length xs ∷ []) (bs ++ xs) ≡ cut ns bs ++ xs ∷ []
cut-push [] bs xs h = ap (λ (ys : List ℕ). ys ∷ []) (ap (take (length xs)) (ap (λ (b : List ℕ). b ++ xs) (sym h.0)) ∙ take_all (length xs) xs (omega arith))
cut-push (n ∷ ns) bs xs h =
    let size : length (take n bs) ≡ n = cc in
    let room : n ≤ length bs = omega (arith, size, length-take n bs) in
    let rest : concat (cut ns (drop n bs)) ≡ drop n bs = append_cancel_left (take n bs) (concat (cut ns (drop n bs))) (drop n bs) (h.0 ∙ sym (take-append-drop n bs)) in
    let sizes : map length (cut ns (drop n bs)) ≡ ns = cc in
    let here = take-append-le n bs xs room in
    let later = ap (cut (ns ++ length xs ∷ [])) (drop-append-le n bs xs room) ∙ cut-push ns (drop n bs) xs (rest, sizes) in
    cc

pub IsCut-push : (ns bs xs : List ℕ) → IsCut ns bs → IsCut (ns ++ length xs ∷ []) (bs ++ xs)
IsCut-push ns bs xs h =
    let e = cut-push ns bs xs h in (
      ap concat e ∙ concat-append (cut ns bs) (xs ∷ []) ∙ ap (λ (b : List ℕ). b ++ (xs ++ [])) h.0 ∙ ap (λ (z : List ℕ). bs ++ z) (append-nil xs),
      ap (map length) e ∙ map_push length (cut ns bs) xs ∙ ap (λ (m : List ℕ). m ++ length xs ∷ []) h.1,
    )
