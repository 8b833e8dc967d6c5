-- How many entries edits put that weren't there.
use Rattle.std.proofs.Common.{Bool, true, false, ◌≡◌, inl, inr, ℕ, ◌+◌, ◌<◌, ◌≤◌, eqb, List, [], ◌∷◌, ◌++◌, length, Option, Some, None, refl, ap, arith, if◌then◌else◌}
use Rattle.std.proofs.lemmas.Bool.{cases_lt, lt-ltb, le-ltb, eq-eqb, ne_eqb}
use Rattle.tree_edit.specs.Edits.{under, over, given, edited, AreEdits, entry_with, of_some, extra, puts}

-- every key is at least a number
abbrev pub AreFrom : {E : Type 0} → (E → ℕ) → ℕ → List E → Type 0
AreFrom key k [] = Unit {0}
AreFrom key k (e ∷ es) = (k ≤ key e) × AreFrom key k es

pub from-none : {E : Type 0} (key : E → ℕ) (k : ℕ) (es : List E) → AreFrom key (k + 1) es → entry_with key k es ≡ None
from-none key k [] a = refl
from-none key k (e ∷ es) a = let x = a.0 in rw (ne_eqb (key e) k (λ h. absurd (omega (arith, h, x)))) (from-none key k es a.1)

-- a list and then another, in which a key doesn't stand, or that begins behind it
pub with-behind : {E : Type 0} (key : E → ℕ) (k : ℕ) (xs ys : List E) → entry_with key k ys ≡ None → entry_with key k (xs ++ ys) ≡ entry_with key k xs
with-behind key k [] ys none = none
with-behind key k (x ∷ xs) ys none = ap (λ (o : Option _). if eqb (key x) k then Some x else o) (with-behind key k xs ys none)

pub with-skip : {E : Type 0} (key : E → ℕ) (k : ℕ) (xs ys : List E) → entry_with key k xs ≡ None → entry_with key k (xs ++ ys) ≡ entry_with key k ys
with-skip key k [] ys none = refl
with-skip {E} key k (x ∷ xs) ys none = by (eqb (key x) k) (with-skip key k xs ys) none
  where
    by : (b : Bool) → (entry_with key k xs ≡ None → entry_with key k (xs ++ ys) ≡ entry_with key k ys) → (if b then Some x else entry_with key k xs) ≡ None
        → (if b then Some x else entry_with key k (xs ++ ys)) ≡ entry_with key k ys
    by true rest h = absurd (cc)
    by false rest h = rest h

over-with : {E : Type 0} (key : E → ℕ) (k d : ℕ) (es : List E) → d < k → entry_with key k (over key d es) ≡ entry_with key k es
over-with key k d [] lt = refl
over-with key k d (e ∷ es) lt = elim (cases_lt d (key e)) [
  | inl a ↦ rw (lt-ltb _ _ a) (ap (λ (o : Option _). if eqb (key e) k then Some e else o) (over-with key k d es lt))
  | inr a ↦ rw (le-ltb _ _ a, ne_eqb (key e) k (λ h. absurd (omega (arith, h, a, lt)))) (over-with key k d es lt)
]

-- ---- sums

-- the numbers of some entries together
abbrev pub sum_of : {E : Type 0} → (E → ℕ) → List E → ℕ
sum_of f [] = 0
sum_of f (e ∷ es) = f e + sum_of f es

pub sum-append : {E : Type 0} (f : E → ℕ) (xs ys : List E) → sum_of f (xs ++ ys) ≡ sum_of f xs + sum_of f ys
sum-append f [] ys = omega arith
sum-append f (x ∷ xs) ys = let h = sum-append f xs ys in omega (arith, h)

pub sum-given : {E : Type 0} (f : E → ℕ) (o : Option E) → sum_of f (given o) ≡ of_some f o
sum-given f None = refl
sum-given f (Some e) = omega arith

-- the entries below a key, that of the key and those above it
sum-parts : {E : Type 0} (key f : E → ℕ) (k : ℕ) (es : List E) → sum_of f (under key k es) + of_some f (entry_with key k es) + sum_of f (over key k es) ≤ sum_of f es
sum-parts key f k [] = omega arith
sum-parts {E} key f k (e ∷ es) =
    let h = sum-parts key f k es in
    elim (cases_lt (key e) k) [
      | inl a ↦ rw (lt-ltb _ _ a, le-ltb k (key e) (omega (arith, a)), ne_eqb (key e) k (λ s. absurd (omega (arith, s, a)))) (omega (arith, h))
      | inr a ↦ elim (cases_lt k (key e)) [
        | inl b ↦ rw (le-ltb _ _ a, lt-ltb _ _ b, ne_eqb (key e) k (λ s. absurd (omega (arith, s, b)))) (omega (arith, h))
        | inr b ↦ rw (le-ltb _ _ a, le-ltb _ _ b, eq-eqb (key e) k (omega (arith, a, b))) (omega (arith, h))
      ]
    ]

extra-over : {E : Type 0} (key f : E → ℕ) (low high k : ℕ) (es : List E) (ds : List (ℕ × Option E)) → k < low → AreEdits key low high ds → extra key f (over key k es) ds ≡ extra key f es ds
extra-over key f low high k es [] lt d = refl
extra-over key f low high k es (x ∷ ds) lt d =
    let a = d.0 in
    let here = over-with key x.0 k es (omega (arith, a, lt)) in
    let rest = extra-over key f (x.0 + 1) high k es ds (omega (arith, a, lt)) d.3 in
    rw (here, rest) refl

-- a sum over the entries after edits
pub sum-edited : {E : Type 0} (key f : E → ℕ) (low high : ℕ) (es : List E) (ds : List (ℕ × Option E)) → AreEdits key low high ds → sum_of f (edited key es ds) ≤ sum_of f es + extra key f es ds
sum-edited key f low high es [] d = omega arith
sum-edited {E} key f low high es (x ∷ ds) d =
    let later : List E = edited key (over key x.0 es) ds in
    let parts = sum-parts key f x.0 es in
    let rest = sum-edited key f (x.0 + 1) high (over key x.0 es) ds d.3 in
    let same = extra-over key f (x.0 + 1) high x.0 es ds (omega arith) d.3 in
    let one = sum-append f (under key x.0 es) (given x.1 ++ later) in
    let two = sum-append f (given x.1) later in
    let three = sum-given f x.1 in
    omega (arith, parts, rest, same, one, two, three)

sum-one : {E : Type 0} (es : List E) → sum_of (λ e. 1) es ≡ length es
sum-one [] = refl
sum-one (e ∷ es) = let h = sum-one es in omega (arith, h)

-- edits lengthen a list by no more than these
pub edited-length : {E : Type 0} (key : E → ℕ) (low high : ℕ) (es : List E) (ds : List (ℕ × Option E)) → AreEdits key low high ds → length (edited key es ds) ≤ length es + puts key es ds
edited-length key low high es ds d =
    let a = sum-edited key (λ e. 1) low high es ds d in
    let b = sum-one (edited key es ds) in
    let c = sum-one es in
    omega (arith, a, b, c)

-- every key is below a number
abbrev pub AreBefore : {E : Type 0} → (E → ℕ) → ℕ → List E → Type 0
AreBefore key k [] = Unit {0}
AreBefore key k (e ∷ es) = (key e < k) × AreBefore key k es

before-none : {E : Type 0} (key : E → ℕ) (m k : ℕ) (xs : List E) → m ≤ k → AreBefore key m xs → entry_with key k xs ≡ None
before-none key m k [] le a = refl
before-none key m k (x ∷ xs) le a = let y = a.0 in rw (ne_eqb (key x) k (λ h. absurd (omega (arith, h, y, le)))) (before-none key m k xs le a.1)

from-less : {E : Type 0} (key : E → ℕ) (m k : ℕ) (es : List E) → m ≤ k → AreFrom key k es → AreFrom key m es
from-less key m k [] le a = tt
from-less key m k (e ∷ es) le a = let x = a.0 in (omega (arith, x, le), from-less key m k es le a.1)

-- edits of two parts put what those of each put
pub puts-parts : {E : Type 0} (key : E → ℕ) (f : E → ℕ) (low m high : ℕ) (xs ys : List E) (cs ds : List (ℕ × Option E)) → AreBefore key m xs → AreFrom key m ys → AreEdits key low m cs → AreEdits key m high ds
    → extra key f (xs ++ ys) (cs ++ ds) ≡ extra key f xs cs + extra key f ys ds
puts-parts key f low m high xs ys [] ds a b c d = behind key f m high xs ys ds (omega arith) a d
  where
    behind : {E : Type 0} (key : E → ℕ) (f : E → ℕ) (low high : ℕ) (xs ys : List E) (ds : List (ℕ × Option E)) → m ≤ low → AreBefore key m xs → AreEdits key low high ds → extra key f (xs ++ ys) ds ≡ 0 + extra key f ys ds
    behind key f low high xs ys [] le a d = refl
    behind key f low high xs ys (x ∷ ds) le a d =
        let y = d.0 in
        let here = with-skip key x.0 xs ys (before-none key m x.0 xs (omega (arith, y, le)) a) in
        let rest = behind key f (x.0 + 1) high xs ys ds (omega (arith, y, le)) a d.3 in
        rw here (omega (arith, rest))
puts-parts key f low m high xs ys (x ∷ cs) ds a b c d =
    let y = c.1 in
    let here = with-behind key x.0 xs ys (from-none key x.0 ys (from-less key (x.0 + 1) m ys (omega (arith, y)) b)) in
    let rest = puts-parts key f (x.0 + 1) m high xs ys cs ds a b c.3 d in
    rw here (omega (arith, rest))
