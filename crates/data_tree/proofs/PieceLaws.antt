-- What holds of each element of a list, and lists cut into pieces.
use Rattle.std.proofs.Common.{◌≡◌, ℕ, zero, suc, ◌+◌, ◌-◌, ◌*◌, ◌/◌, ◌%◌, ◌<◌, ◌≤◌, inl, inr, min, List, [], ◌∷◌, ◌++◌, length, take, drop, refl, sym, ap, ◌∙◌, arith, length-drop, length-take, mul-suc}
use Rattle.std.specs.List.{All}
use Rattle.std.proofs.lemmas.Bool.{cases_lt}
use Rattle.std.proofs.lemmas.List.{take-append-drop, take_all, drop_all}
use Rattle.std.proofs.Math.Nat.{add-div_right, div-add-mod, div-eq_of_lt, mod-lt, mul-zero}
use Rattle.data_tree.specs.Plan.{pieces, cut}

-- a fact of each element
abbrev pub Each : {X : Type 0} → (X → Type 0) → List X → Type 0
Each P [] = Unit {0}
Each P (x ∷ xs) = P x × Each P xs

pub each-from_all : {X : Type 0} (P : X → Type 0) (xs : List X) → All P xs → Each P xs
each-from_all P [] all = tt
each-from_all P (x ∷ xs) all = (all 0 x (omega arith), each-from_all P xs (λ k d h. all (suc k) d (omega arith)))

pub all_from-each : {X : Type 0} (P : X → Type 0) (xs : List X) → Each P xs → All P xs
all_from-each P [] each k d h = absurd (omega arith)
all_from-each P (x ∷ xs) each zero d h = each.0
all_from-each P (x ∷ xs) each (suc k) d h = all_from-each P xs each.1 k d (omega arith)

pub each-append : {X : Type 0} (P : X → Type 0) (xs ys : List X) → Each P xs → Each P ys → Each P (xs ++ ys)
each-append P [] ys first later = later
each-append P (x ∷ xs) ys first later = (first.0, each-append P xs ys first.1 later)

pub each-left : {X : Type 0} (P : X → Type 0) (xs ys : List X) → Each P (xs ++ ys) → Each P xs
each-left P [] ys all = tt
each-left P (x ∷ xs) ys all = (all.0, each-left P xs ys all.1)

pub each-right : {X : Type 0} (P : X → Type 0) (xs ys : List X) → Each P (xs ++ ys) → Each P ys
each-right P [] ys all = all
each-right P (x ∷ xs) ys all = each-right P xs ys all.1

pub each-take : {X : Type 0} (P : X → Type 0) (n : ℕ) (xs : List X) → Each P xs → Each P (take n xs)
each-take P zero xs all = tt
each-take P (suc n) [] all = tt
each-take P (suc n) (x ∷ xs) all = (all.0, each-take P n xs all.1)

pub each-drop : {X : Type 0} (P : X → Type 0) (n : ℕ) (xs : List X) → Each P xs → Each P (drop n xs)
each-drop P zero xs all = all
each-drop P (suc n) [] all = tt
each-drop P (suc n) (x ∷ xs) all = each-drop P n xs all.1

-- ---- pieces

-- lists one behind the other
abbrev pub joined : {X : Type 0} → List (List X) → List X
joined [] = []
joined (x ∷ xs) = x ++ joined xs

pub cut-none : {X : Type 0} (size : ℕ) (xs : List X) → 0 < size → length xs ≤ 0 → cut size xs ≡ []
unfolding cut
cut-none size [] low h =
    let e : (0 + (size - 1)) / size ≡ 0 = div-eq_of_lt (omega arith) in
    ap (λ (n : ℕ). pieces size n []) e
cut-none size (x ∷ xs) low h = absurd (omega arith)

-- a full piece, or the last
count-more : (size n : ℕ) → 0 < size → 0 < n → (n + (size - 1)) / size ≡ suc ((n - size + (size - 1)) / size)
count-more size n low some = elim (cases_lt size n) [
  | inl more ↦
      let whole : n + (size - 1) ≡ n - size + (size - 1) + size = omega arith in
      let next : (n - size + (size - 1)) / size + 1 ≡ suc ((n - size + (size - 1)) / size) = omega arith in
      ap (λ (x : ℕ). x / size) whole ∙ add-div_right (n - size + (size - 1)) low ∙ next
  | inr all ↦
      let whole : n + (size - 1) ≡ n - 1 + size = omega arith in
      let last : (n - 1) / size ≡ 0 = div-eq_of_lt (omega arith) in
      let none : (n - size + (size - 1)) / size ≡ 0 = div-eq_of_lt (omega arith) in
      ap (λ (x : ℕ). x / size) whole ∙ add-div_right (n - 1) low ∙ ap (λ (x : ℕ). x + 1) last ∙ ap suc (sym none)
]

pub cut-more : {X : Type 0} (size : ℕ) (xs : List X) → 0 < size → 0 < length xs → cut size xs ≡ take size xs ∷ cut size (drop size xs)
unfolding cut
cut-more {X} size xs low h =
    ap (λ (n : ℕ). pieces size n xs) (count-more size (length xs) low h)
    ∙ ap (λ (m : ℕ). take size xs ∷ pieces size ((m + (size - 1)) / size) (drop size xs)) (sym (length-drop size xs))

pub cut-one : {X : Type 0} (size : ℕ) (xs : List X) → 0 < length xs → length xs ≤ size → cut size xs ≡ xs ∷ []
cut-one {X} size xs h short =
    let left = length-drop size xs in
    cut-more size xs (omega arith) h ∙ ap (λ (first : List X). first ∷ cut size (drop size xs)) (take_all size xs short)
    ∙ ap (λ (rest : List (List X)). xs ∷ rest) (cut-none size (drop size xs) (omega arith) (omega arith))

length-pieces : {X : Type 0} (size n : ℕ) (xs : List X) → length (pieces size n xs) ≡ n
length-pieces size zero xs = refl
length-pieces size (suc n) xs = ap suc (length-pieces size n (drop size xs))

pub length-cut : {X : Type 0} (size : ℕ) (xs : List X) → length (cut size xs) ≡ (length xs + (size - 1)) / size
unfolding cut
length-cut size xs = length-pieces size ((length xs + (size - 1)) / size) xs

joined-pieces : {X : Type 0} (size n : ℕ) (xs : List X) → length xs ≤ size * n → joined (pieces size n xs) ≡ xs
joined-pieces size zero [] h = refl
joined-pieces size zero (x ∷ xs) h = let none = mul-zero size in absurd (omega arith)
joined-pieces size (suc n) xs h =
    let left = length-drop size xs in
    let more = mul-suc size n in
    ap (λ rest. take size xs ++ rest) (joined-pieces size n (drop size xs) (omega arith)) ∙ take-append-drop size xs

pub joined-cut : {X : Type 0} (size : ℕ) (xs : List X) → 0 < size → joined (cut size xs) ≡ xs
unfolding cut
joined-cut size xs low =
    let n = length xs + (size - 1) in
    let whole : size * (n / size) + n % size ≡ n = div-add-mod n size in
    let rest : n % size < size = mod-lt n low in
    joined-pieces size (n / size) xs (omega arith)

pieces-short : {X : Type 0} (size n : ℕ) (xs : List X) → Each (λ (piece : List X). length piece ≤ size) (pieces size n xs)
pieces-short size zero xs = tt
pieces-short size (suc n) xs = (let e = length-take size xs in omega arith, pieces-short size n (drop size xs))

pub cut-short : {X : Type 0} (size : ℕ) (xs : List X) → Each (λ (piece : List X). length piece ≤ size) (cut size xs)
unfolding cut
cut-short size xs = pieces-short size ((length xs + (size - 1)) / size) xs

pieces-some : {X : Type 0} (size n : ℕ) (xs : List X) → 0 < size → size * n < length xs + size → Each (λ (piece : List X). 0 < length piece) (pieces size n xs)
pieces-some size zero xs low h = tt
pieces-some size (suc n) xs low h =
    let more = mul-suc size n in
    let here = length-take size xs in
    let left = length-drop size xs in
    (omega arith, pieces-some size n (drop size xs) low (omega arith))

-- no piece is empty
pub cut-some : {X : Type 0} (size : ℕ) (xs : List X) → 0 < size → Each (λ (piece : List X). 0 < length piece) (cut size xs)
unfolding cut
cut-some size xs low =
    let n = length xs + (size - 1) in
    let whole : size * (n / size) + n % size ≡ n = div-add-mod n size in
    pieces-some size (n / size) xs low (omega arith)

pieces-each : {X : Type 0} (P : X → Type 0) (size n : ℕ) (xs : List X) → Each P xs → Each (Each P) (pieces size n xs)
pieces-each P size zero xs all = tt
pieces-each P size (suc n) xs all = (each-take P size xs all, pieces-each P size n (drop size xs) (each-drop P size xs all))

pub cut-each : {X : Type 0} (P : X → Type 0) (size : ℕ) (xs : List X) → Each P xs → Each (Each P) (cut size xs)
unfolding cut
cut-each P size xs all = pieces-each P size ((length xs + (size - 1)) / size) xs all

-- ---- the front of a list, as long as a piece

pub take-most : {X : Type 0} (size n : ℕ) (xs : List X) → n ≡ min size (length xs) → take n xs ≡ take size xs
take-most {X} size n xs is = elim (cases_lt size (length xs)) [
  | inl more ↦ let e : n ≡ size = omega arith in ap (λ (m : ℕ). take m xs) e
  | inr all ↦ let e : length xs ≤ n = omega arith in take_all n xs e ∙ sym (take_all size xs all)
]

pub drop-most : {X : Type 0} (size n : ℕ) (xs : List X) → n ≡ min size (length xs) → drop n xs ≡ drop size xs
drop-most {X} size n xs is = elim (cases_lt size (length xs)) [
  | inl more ↦ let e : n ≡ size = omega arith in ap (λ (m : ℕ). drop m xs) e
  | inr all ↦ let e : length xs ≤ n = omega arith in drop_all n xs e ∙ sym (drop_all size xs all)
]

-- some elements, cut: those in front, and the rest cut
pub cut-front : {X : Type 0} (size n : ℕ) (rest here others : List X) → 0 < size → 0 < length rest → n ≡ min size (length rest) → here ≡ take n rest → others ≡ drop n rest
    → cut size rest ≡ here ∷ cut size others
cut-front {X} size n rest here others low some is first later =
    let head : take size rest ≡ here = sym (first ∙ take-most size n rest is) in
    let tail : drop size rest ≡ others = sym (later ∙ drop-most size n rest is) in
    cut-more size rest low some ∙ ap (λ (p : List X). p ∷ cut size (drop size rest)) head ∙ ap (λ (p : List X). here ∷ cut size p) tail
