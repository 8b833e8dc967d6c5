-- Tests of all elements of a list, and lists that are cut into pieces.
use Rattle.std.proofs.Common.{◌≡◌, ℕ, suc, zero, ◌*◌, ◌<◌, ◌==◌, Bool, true, false, List, [], ◌∷◌, ◌++◌, length, map, take, drop, get_or, refl, ap, arith, length-append}
use Rattle.std.specs.List.{flat_map, list_all}
use Rattle.std.specs.Simd.{first_chunks}
use Rattle.std.proofs.lemmas.Bool.{and_from, and_parts, eqb-true}
use Rattle.std.proofs.Math.Bool.{and-false}
use Rattle.std.proofs.lemmas.List.{drop_at, take_at}

-- what holds of all elements holds of the first
pub all-take : {X : Type 0} (test : X → Bool) (n : ℕ) (xs : List X) → list_all test xs ≡ true → list_all test (take n xs) ≡ true
all-take test zero xs all = refl
all-take test (suc n) [] all = refl
all-take test (suc n) (x ∷ xs) all =
    let parts = and_parts (test x) (list_all test xs) all in
    and_from (test x) (list_all test (take n xs)) parts.0 (all-take test n xs parts.1)

-- what follows of two tests holds of all elements that pass both
pub all-both : {X : Type 0} (p q r : X → Bool) (xs : List X) → ((x : X) → p x ≡ true → q x ≡ true → r x ≡ true)
    → list_all p xs ≡ true → list_all q xs ≡ true → list_all r xs ≡ true
all-both p q r [] each all more = refl
all-both p q r (x ∷ xs) each all more =
    let first = and_parts (p x) (list_all p xs) all in
    let second = and_parts (q x) (list_all q xs) more in
    and_from (r x) (list_all r xs) (each x first.0 second.0) (all-both p q r xs each first.1 second.1)

-- an element that fails the test
pub not-all : {X Y : Type 0} (test : Y → Bool) (f : X → Y) (xs : List X) (i : ℕ) (d : X) → i < length xs → test (f (get_or xs i d)) ≡ false → list_all test (map f xs) ≡ false
not-all test f [] i d within fails = absurd (omega arith)
not-all test f (x ∷ xs) zero d within fails = rw fails refl
not-all test f (x ∷ xs) (suc i) d within fails = rw (not-all test f xs i d (omega arith) fails) (and-false (test (f x)))

-- pieces of one length
abbrev pub have_length : {X : Type 0} → (X → List ℕ) → ℕ → List X → Bool
have_length f k xs = list_all (λ x. length (f x) == k) xs

pub length-pieces : {X : Type 0} (f : X → List ℕ) (k : ℕ) (xs : List X) → have_length f k xs ≡ true → length (flat_map f xs) ≡ k * length xs
length-pieces f k [] all = omega arith
length-pieces f k (x ∷ xs) all =
    let parts = and_parts (length (f x) == k) (have_length f k xs) all in
    omega (arith, length-append (f x) (flat_map f xs), eqb-true (length (f x)) k parts.0, length-pieces f k xs parts.1)

-- joined pieces are cut into the same pieces
pub chunks-pieces : {X : Type 0} (f : X → List ℕ) (k : ℕ) (xs : List X) → have_length f k xs ≡ true → first_chunks k (length xs) (flat_map f xs) ≡ map f xs
chunks-pieces f k [] all = refl
chunks-pieces f k (x ∷ xs) all =
    let parts = and_parts (length (f x) == k) (have_length f k xs) all in
    let len : length (f x) ≡ k = eqb-true (length (f x)) k parts.0 in
    let front : take k (f x ++ flat_map f xs) ≡ f x = take_at (f x) (flat_map f xs) k len in
    let back : drop k (f x ++ flat_map f xs) ≡ flat_map f xs = drop_at (f x) (flat_map f xs) k len in
    rw (front, back) (ap (λ ys. f x ∷ ys) (chunks-pieces f k xs parts.1))
