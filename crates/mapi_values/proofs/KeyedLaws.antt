-- What stands at a place of a list that ascends by a key, and what an edit there leaves.
use Rattle.std.proofs.Common.{◌≡◌, ℕ, ◌<◌, ◌≤◌, ◌==◌, ◌&&◌, Bool, true, false, List, [], ◌∷◌, length, None, Some, Result, Ok, Err, suc, zero, get_or, set, arith, refl, sym, ap, inl, inr}
use Rattle.std.specs.Prelude.{nat_lt, nat_le}
use Rattle.std.proofs.lemmas.Bool.{ltb-true, ltb-false, leb-true, le-leb, eqb-true, eq-eqb, ne_eqb, lt-ltb, le-ltb, and_parts, and_from, cases_Bool, cases_lt, cases_eq}
use Rattle.std.proofs.lemmas.Bool.Decides.{nat_tests}
use Rattle.std.proofs.lemmas.Cmp.{ranked}
use Rattle.std.specs.List.{list_all, insert, remove}
use Rattle.std.specs.List.Sorted.{IsSearchInRange, IsBinarySearchResult, IsNonDecreasingBy}
use Rattle.std.specs.Ordering.{nat_cmp, ordering_index}
use Rattle.std.specs.Result.{MatchResult}
use Rattle.mapi_values.specs.Keyed.{keys_ascend, find_key, put_key, drop_key, IsHere, IsGap}

-- a lower bound serves too
pub ascend-lower : {X : Type 0} (key : X → ℕ) (low high : ℕ) (xs : List X) → low ≤ high → keys_ascend key high xs ≡ true → keys_ascend key low xs ≡ true
ascend-lower key low high [] le a = refl
ascend-lower key low high (x ∷ xs) le a =
    let p = and_parts (nat_le high (key x)) (keys_ascend key (suc (key x)) xs) a in
    and_from (nat_le low (key x)) (keys_ascend key (suc (key x)) xs) (le-leb low (key x) (omega (arith, leb-true high (key x) p.0))) p.1

-- each key is at least the lower bound
pub ascend-from : {X : Type 0} (key : X → ℕ) (low : ℕ) (xs : List X) (i : ℕ) (d : X) → keys_ascend key low xs ≡ true → i < length xs → low ≤ key (get_or xs i d)
ascend-from key low [] i d a within = absurd (omega arith)
ascend-from key low (x ∷ xs) zero d a within = leb-true low (key x) (and_parts (nat_le low (key x)) (keys_ascend key (suc (key x)) xs) a).0
ascend-from key low (x ∷ xs) (suc i) d a within =
    let p = and_parts (nat_le low (key x)) (keys_ascend key (suc (key x)) xs) a in
    omega (arith, leb-true low (key x) p.0, ascend-from key (suc (key x)) xs i d p.1 (omega arith))

-- a later key is greater
pub ascend-rise : {X : Type 0} (key : X → ℕ) (low : ℕ) (xs : List X) (i j : ℕ) (d : X) → keys_ascend key low xs ≡ true → i < j → j < length xs → key (get_or xs i d) < key (get_or xs j d)
ascend-rise key low [] i j d a less within = absurd (omega arith)
ascend-rise key low (x ∷ xs) i zero d a less within = absurd (omega arith)
ascend-rise key low (x ∷ xs) zero (suc j) d a less within =
    ascend-from key (suc (key x)) xs j d (and_parts (nat_le low (key x)) (keys_ascend key (suc (key x)) xs) a).1 (omega arith)
ascend-rise key low (x ∷ xs) (suc i) (suc j) d a less within =
    ascend-rise key (suc (key x)) xs i j d (and_parts (nat_le low (key x)) (keys_ascend key (suc (key x)) xs) a).1 (omega arith) (omega arith)

-- the first element has a smaller key than one that stands after it
first-is-smaller : {X : Type 0} (key : X → ℕ) (low k : ℕ) (x : X) (xs : List X) (i : ℕ) → keys_ascend key low (x ∷ xs) ≡ true → IsHere key k (x ∷ xs) (suc i) → key x < k
first-is-smaller key low k x xs i a h =
    let at : key (get_or xs i x) ≡ k = h.here x in
    omega (arith, at, ascend-from key (suc (key x)) xs i x (and_parts (nat_le low (key x)) (keys_ascend key (suc (key x)) xs) a).1 (omega (arith, h.within)))

after : {X : Type 0} (key : X → ℕ) (k : ℕ) (x : X) (xs : List X) (i : ℕ) → IsHere key k (x ∷ xs) (suc i) → IsHere key k xs i
after key k x xs i h = record { within = omega (arith, h.within); here = λ d. h.here d }

pub find-here : {X : Type 0} (key : X → ℕ) (low k : ℕ) (xs : List X) (i : ℕ) (d : X) → keys_ascend key low xs ≡ true → IsHere key k xs i → find_key key k xs ≡ Some (get_or xs i d)
find-here key low k [] i d a h = absurd (omega (arith, h.within))
find-here key low k (x ∷ xs) zero d a h = rw (eq-eqb (key x) k (h.here d)) refl
find-here key low k (x ∷ xs) (suc i) d a h =
    let less : key x < k = first-is-smaller key low k x xs i a h in
    rw (ne_eqb (key x) k (λ e. omega arith)) (find-here key (suc (key x)) k xs i d (and_parts (nat_le low (key x)) (keys_ascend key (suc (key x)) xs) a).1 (after key k x xs i h))

pub put-here : {X : Type 0} (key : X → ℕ) (low : ℕ) (y : X) (xs : List X) (i : ℕ) → keys_ascend key low xs ≡ true → IsHere key (key y) xs i → put_key key y xs ≡ set xs i y
put-here key low y [] i a h = absurd (omega (arith, h.within))
put-here key low y (x ∷ xs) zero a h =
    let same : key x ≡ key y = h.here y in
    rw (le-ltb (key x) (key y) (omega arith), eq-eqb (key x) (key y) same) refl
put-here key low y (x ∷ xs) (suc i) a h =
    let less : key x < key y = first-is-smaller key low (key y) x xs i a h in
    rw (lt-ltb (key x) (key y) less) (ap (λ zs. x ∷ zs) (put-here key (suc (key x)) y xs i (and_parts (nat_le low (key x)) (keys_ascend key (suc (key x)) xs) a).1 (after key (key y) x xs i h)))

pub drop-here : {X : Type 0} (key : X → ℕ) (low k : ℕ) (xs : List X) (i : ℕ) → keys_ascend key low xs ≡ true → IsHere key k xs i → drop_key key k xs ≡ remove xs i
drop-here key low k [] i a h = absurd (omega (arith, h.within))
drop-here key low k (x ∷ xs) zero a h = rw (eq-eqb (key x) k (h.here x)) refl
drop-here key low k (x ∷ xs) (suc i) a h =
    let less : key x < k = first-is-smaller key low k x xs i a h in
    rw (ne_eqb (key x) k (λ e. omega arith)) (ap (λ zs. x ∷ zs) (drop-here key (suc (key x)) k xs i (and_parts (nat_le low (key x)) (keys_ascend key (suc (key x)) xs) a).1 (after key k x xs i h)))

past : {X : Type 0} (key : X → ℕ) (k : ℕ) (x : X) (xs : List X) (i : ℕ) → IsGap key k (x ∷ xs) (suc i) → IsGap key k xs i
past key k x xs i g = record {
  within = omega (arith, g.within);
  below = λ j d less. g.below (suc j) d (omega arith);
  above = λ j d le within. g.above (suc j) d (omega arith) (omega arith);
}

rest : {X : Type 0} (key : X → ℕ) (k : ℕ) (x : X) (xs : List X) → IsGap key k (x ∷ xs) zero → IsGap key k xs zero
rest key k x xs g = record {
  within = omega arith;
  below = λ j d less. absurd (omega arith);
  above = λ j d le within. g.above (suc j) d (omega arith) (omega arith);
}

pub find-gap : {X : Type 0} (key : X → ℕ) (k : ℕ) (xs : List X) (i : ℕ) → IsGap key k xs i → find_key key k xs ≡ None
find-gap key k [] i g = refl
find-gap key k (x ∷ xs) zero g =
    let more : k < key x = g.above 0 x (omega arith) (omega arith) in
    rw (ne_eqb (key x) k (λ e. omega arith)) (find-gap key k xs zero (rest key k x xs g))
find-gap key k (x ∷ xs) (suc i) g =
    let less : key x < k = g.below 0 x (omega arith) in
    rw (ne_eqb (key x) k (λ e. omega arith)) (find-gap key k xs i (past key k x xs i g))

pub drop-gap : {X : Type 0} (key : X → ℕ) (k : ℕ) (xs : List X) (i : ℕ) → IsGap key k xs i → drop_key key k xs ≡ xs
drop-gap key k [] i g = refl
drop-gap key k (x ∷ xs) zero g =
    let more : k < key x = g.above 0 x (omega arith) (omega arith) in
    rw (ne_eqb (key x) k (λ e. omega arith)) (ap (λ zs. x ∷ zs) (drop-gap key k xs zero (rest key k x xs g)))
drop-gap key k (x ∷ xs) (suc i) g =
    let less : key x < k = g.below 0 x (omega arith) in
    rw (ne_eqb (key x) k (λ e. omega arith)) (ap (λ zs. x ∷ zs) (drop-gap key k xs i (past key k x xs i g)))

pub put-gap : {X : Type 0} (key : X → ℕ) (y : X) (xs : List X) (i : ℕ) → IsGap key (key y) xs i → put_key key y xs ≡ insert xs i y
put-gap key y [] zero g = refl
put-gap key y [] (suc i) g = absurd (omega (arith, g.within))
put-gap key y (x ∷ xs) zero g =
    let more : key y < key x = g.above 0 x (omega arith) (omega arith) in
    rw (le-ltb (key x) (key y) (omega arith), ne_eqb (key x) (key y) (λ e. omega arith)) refl
put-gap key y (x ∷ xs) (suc i) g =
    let less : key x < key y = g.below 0 x (omega arith) in
    rw (lt-ltb (key x) (key y) less) (ap (λ zs. x ∷ zs) (put-gap key y xs i (past key (key y) x xs i g)))

-- neither below nor equal
above : (a b : ℕ) → nat_lt a b ≡ false → (a == b) ≡ false → suc b ≤ a
above a b f n = elim (cases_eq a b) [ inl e ↦ absurd (cc (eq-eqb a b e)) | inr d ↦ grind (arith, ltb-false a b f) ]

-- an element that is put leaves the list ascending
pub put-ascends : {X : Type 0} (key : X → ℕ) (low : ℕ) (y : X) (xs : List X) → low ≤ key y → keys_ascend key low xs ≡ true → keys_ascend key low (put_key key y xs) ≡ true
put-ascends key low y [] le a = and_from (nat_le low (key y)) true (le-leb low (key y) le) refl
put-ascends key low y (x ∷ xs) le a =
    let p = and_parts (nat_le low (key x)) (keys_ascend key (suc (key x)) xs) a in
    elim (cases_Bool (nat_lt (key x) (key y))) [
      | inl t ↦ rw t (and_from (nat_le low (key x)) (keys_ascend key (suc (key x)) (put_key key y xs)) p.0 (put-ascends key (suc (key x)) y xs (omega (arith, ltb-true (key x) (key y) t)) p.1))
      | inr f ↦ rw f (elim (cases_Bool (key x == key y)) [
        | inl t ↦ rw t (and_from (nat_le low (key y)) (keys_ascend key (suc (key y)) xs) (le-leb low (key y) le)
            (ascend-lower key (suc (key y)) (suc (key x)) xs (omega (arith, eqb-true (key x) (key y) t)) p.1))
        | inr n ↦ rw n (and_from (nat_le low (key y)) (nat_le (suc (key y)) (key x) && keys_ascend key (suc (key x)) xs) (le-leb low (key y) le)
            (and_from (nat_le (suc (key y)) (key x)) (keys_ascend key (suc (key x)) xs) (le-leb (suc (key y)) (key x) (above (key x) (key y) f n)) p.1))
      ])
    ]

-- the others ascend without the one that is dropped
pub drop-ascends : {X : Type 0} (key : X → ℕ) (low k : ℕ) (xs : List X) → keys_ascend key low xs ≡ true → keys_ascend key low (drop_key key k xs) ≡ true
drop-ascends key low k [] a = refl
drop-ascends key low k (x ∷ xs) a =
    let p = and_parts (nat_le low (key x)) (keys_ascend key (suc (key x)) xs) a in
    elim (cases_Bool (key x == k)) [
      | inl t ↦ rw t (ascend-lower key low (suc (key x)) xs (omega (arith, leb-true low (key x) p.0)) p.1)
      | inr f ↦ rw f (and_from (nat_le low (key x)) (keys_ascend key (suc (key x)) (drop_key key k xs)) p.0 (drop-ascends key (suc (key x)) k xs p.1))
    ]

-- what holds of the elements and of the one that is put holds of all
pub put-all : {X : Type 0} (key : X → ℕ) (test : X → Bool) (y : X) (xs : List X) → test y ≡ true → list_all test xs ≡ true → list_all test (put_key key y xs) ≡ true
put-all key test y [] ty a = and_from (test y) true ty refl
put-all key test y (x ∷ xs) ty a =
    let p = and_parts (test x) (list_all test xs) a in
    elim (cases_Bool (nat_lt (key x) (key y))) [
      | inl t ↦ rw t (and_from (test x) (list_all test (put_key key y xs)) p.0 (put-all key test y xs ty p.1))
      | inr f ↦ rw f (elim (cases_Bool (key x == key y)) [
        | inl t ↦ rw t (and_from (test y) (list_all test xs) ty p.1)
        | inr n ↦ rw n (and_from (test y) (test x && list_all test xs) ty a)
      ])
    ]

-- what holds of the elements holds of those that stay
pub drop-all : {X : Type 0} (key : X → ℕ) (test : X → Bool) (k : ℕ) (xs : List X) → list_all test xs ≡ true → list_all test (drop_key key k xs) ≡ true
drop-all key test k [] a = refl
drop-all key test k (x ∷ xs) a =
    let p = and_parts (test x) (list_all test xs) a in
    elim (cases_Bool (key x == k)) [
      | inl t ↦ rw t p.1
      | inr f ↦ rw f (and_from (test x) (list_all test (drop_key key k xs)) p.0 (drop-all key test k xs p.1))
    ]

comparisons-rise : {X : Type 0} (key : X → ℕ) (xs : List X) (k i j : ℕ) (d : X) → keys_ascend key 0 xs ≡ true → i ≤ j → j < length xs
    → ordering_index (nat_cmp (key (get_or xs i d)) k) ≤ ordering_index (nat_cmp (key (get_or xs j d)) k)
comparisons-rise key xs k i j d a le within =
    let keys : key (get_or xs i d) ≤ key (get_or xs j d) = elim (cases_lt i j) [
      | inl less ↦ omega (arith, ascend-rise key 0 xs i j d a less within)
      | inr more ↦ let same : i ≡ j = omega arith in rw same (omega arith)
    ] in
    grind (arith, nat_tests)

-- a binary search by the key finds the element, or the gap for it
pub searched : {X : Type 0} (key : X → ℕ) (xs : List X) (k : ℕ) (r : Result ℕ ℕ) → keys_ascend key 0 xs ≡ true → IsSearchInRange r (length xs) → IsBinarySearchResult (λ y. nat_cmp (key y) k) xs r → MatchResult r (IsHere key k xs) (IsGap key k xs)
searched key xs k (Ok i) a bound equal = record { within = bound; here = λ d. ranked _ k _ (sym (equal d)) }
searched key xs k (Err i) a bound parted =
    let rise : IsNonDecreasingBy (λ y. ordering_index (nat_cmp (key y) k)) xs = λ i j d le within. comparisons-rise key xs k i j d a le within in
    record {
      within = bound;
      below = λ j d less. ranked _ k _ (sym ((parted rise).0 j d (omega arith) less));
      above = λ j d le within. ranked _ k _ (sym ((parted rise).1 j d le within));
    }
