-- Subnodes in the order of their ids.
use Rattle.std.proofs.Common.{◌≡◌, ◌∙◌, ℕ, suc, ◌<◌, ◌≤◌, ◌==◌, Bool, true, List, [], ◌∷◌, Option, None, Some, refl, sym, ap, inl, inr, arith}
use Rattle.std.specs.Prelude.{nat_le}
use Rattle.std.proofs.lemmas.Bool.{and_from, and_parts, cases_Bool, cases_eq, cases_lt, eq-eqb, eqb-true, le-leb, le-ltb, leb-true, lt-ltb, ne_eqb}
use Rattle.std.proofs.lemmas.Cmp.{ranked}
use Rattle.std.specs.BTreeMap.{is_at}
use Rattle.std.specs.List.{AllByRecursion}
use Rattle.std.specs.List.Sorted.{IsStrictlySortedBy}
use Rattle.std.specs.Map.{keys_of, lookup, values_of}
use Rattle.std.specs.Ordering.{is_eq, nat_cmp}
use Rattle.std.specs.declared.cmp.Ordering.TheVariants.{Less}
use Rattle.pst_base.specs.declared.subs.Sub.{Sub}
use Rattle.mapi_values.specs.Keyed.{find_key, keys_ascend}
use Rattle.node_values.specs.Subnodes.{sub_id}

none-some : {B : Type 0} (y : B) → None ≡ Some y → ⊥
none-some y e = cc

some-injective : {B : Type 0} (x y : B) → Some x ≡ Some y → x ≡ y
some-injective x y e = cc

is-same : (a b : ℕ) → is_eq (nat_cmp a b) ≡ (b == a)
is-same a b = elim (cases_lt a b) [
  | inl lt ↦ rw (lt-ltb a b lt, ne_eqb b a (λ e. absurd (omega (arith, lt, e)))) refl
  | inr ge ↦ rw (le-ltb a b ge) (elim (cases_eq a b) [
    | inl e ↦ rw (eq-eqb a b e, eq-eqb b a (sym e)) refl
    | inr ne ↦ rw (ne_eqb a b ne, ne_eqb b a (λ e. ne (sym e))) refl
  ])
]

-- the keys of entries, from a number on
abbrev pub entries_ascend : ℕ → List (ℕ × Sub) → Bool
entries_ascend low es = keys_ascend (λ (e : ℕ × Sub). e.0) low es

above-first : (k : ℕ) (ks : List ℕ) → AllByRecursion (λ (y : ℕ). nat_cmp k y ≡ Less) ks → AllByRecursion (λ (y : ℕ). suc k ≤ y) ks
above-first k [] all = tt
above-first k (y ∷ ks) all = (let lt : k < y = ranked k y Less (sym all.0) in omega arith, above-first k ks all.1)

pub sorted-ascends : (low : ℕ) (es : List (ℕ × Sub)) → AllByRecursion (λ (y : ℕ). low ≤ y) (keys_of es) → IsStrictlySortedBy nat_cmp (keys_of es) → entries_ascend low es ≡ true
unfolding IsStrictlySortedBy
sorted-ascends low [] above sorted = refl
sorted-ascends low (e ∷ es) above sorted =
    and_from (nat_le low e.0) (entries_ascend (suc e.0) es) (le-leb low e.0 above.0) (sorted-ascends (suc e.0) es (above-first e.0 (keys_of es) sorted.0) sorted.1)

pub all-above : (ks : List ℕ) → AllByRecursion (λ (y : ℕ). 0 ≤ y) ks
all-above [] = tt
all-above (k ∷ ks) = (omega arith, all-above ks)

-- the entry of each subnode is at its id
abbrev pub AreAt : List (ℕ × Sub) → Type 0
AreAt [] = Unit {0}
AreAt (e ∷ es) = (sub_id e.1 ≡ e.0) × AreAt es

lookup-first : (e : ℕ × Sub) (es : List (ℕ × Sub)) → lookup (is_at (nat_cmp e.0)) (e ∷ es) ≡ Some e.1
lookup-first e es = rw (is-same e.0 e.0 ∙ eq-eqb e.0 e.0 refl) refl

lookup-later : (nid : ℕ) (e : ℕ × Sub) (es : List (ℕ × Sub)) → e.0 < nid → lookup (is_at (nat_cmp nid)) (e ∷ es) ≡ lookup (is_at (nat_cmp nid)) es
lookup-later nid e es lt = rw (is-same nid e.0 ∙ ne_eqb e.0 nid (λ q. absurd (omega (arith, lt, q)))) refl

-- so they are, if what is found at an id has that id
pub are-at : (low : ℕ) (es : List (ℕ × Sub)) (found : ℕ → Option Sub) → entries_ascend low es ≡ true → ((nid : ℕ) → low ≤ nid → lookup (is_at (nat_cmp nid)) es ≡ found nid)
    → ((nid : ℕ) (s : Sub) → found nid ≡ Some s → sub_id s ≡ nid) → AreAt es
are-at low [] found ascend looks fits = tt
are-at low (e ∷ es) found ascend looks fits =
    let p = and_parts (nat_le low e.0) (entries_ascend (suc e.0) es) ascend in
    let le : low ≤ e.0 = leb-true low e.0 p.0 in (
      fits e.0 e.1 (sym (looks e.0 le) ∙ lookup-first e es),
      are-at (suc e.0) es found p.1 (λ nid above. sym (lookup-later nid e es (omega arith)) ∙ looks nid (omega arith)) fits,
    )

-- entries at their ids are found by these, and ascend by them
pub values-found : (nid : ℕ) (es : List (ℕ × Sub)) → AreAt es → find_key sub_id nid (values_of es) ≡ lookup (is_at (nat_cmp nid)) es
values-found nid [] at = refl
values-found nid (e ∷ es) at = rw (is-same nid e.0, at.0, values-found nid es at.1) refl

pub values-ascend : (low : ℕ) (es : List (ℕ × Sub)) → AreAt es → entries_ascend low es ≡ true → keys_ascend sub_id low (values_of es) ≡ true
values-ascend low [] at ascend = refl
values-ascend low (e ∷ es) at ascend =
    let p = and_parts (nat_le low e.0) (entries_ascend (suc e.0) es) ascend in
    rw at.0 (and_from (nat_le low e.0) (keys_ascend sub_id (suc e.0) (values_of es)) p.0 (values-ascend (suc e.0) es at.1 p.1))

-- what is found at an id has that id
pub found-at : (subs : List Sub) (nid : ℕ) (s : Sub) → find_key sub_id nid subs ≡ Some s → sub_id s ≡ nid
found-at [] nid s h = cc
found-at (t ∷ subs) nid s h = elim (cases_Bool (sub_id t == nid)) [
  | inl y ↦ let same : t ≡ s = (let e : Some t ≡ Some s = rw y at h in cc) in ap sub_id (sym same) ∙ eqb-true (sub_id t) nid y
  | inr n ↦ found-at subs nid s (rw n at h)
]

-- the first is found
find-first : (x : Sub) (xs : List Sub) → find_key sub_id (sub_id x) (x ∷ xs) ≡ Some x
find-first x xs = rw (eq-eqb (sub_id x) (sub_id x) refl) refl

find-later : (nid : ℕ) (x : Sub) (xs : List Sub) → sub_id x < nid → find_key sub_id nid (x ∷ xs) ≡ find_key sub_id nid xs
find-later nid x xs lt = rw (ne_eqb (sub_id x) nid (λ e. absurd (omega (arith, lt, e)))) refl

-- nothing is found below the first
pub find-below : (low nid : ℕ) (xs : List Sub) → keys_ascend sub_id low xs ≡ true → nid < low → find_key sub_id nid xs ≡ None
find-below low nid [] ascend lt = refl
find-below low nid (x ∷ xs) ascend lt =
    let p = and_parts (nat_le low (sub_id x)) (keys_ascend sub_id (suc (sub_id x)) xs) ascend in
    let le : low ≤ sub_id x = leb-true low (sub_id x) p.0 in
    rw (ne_eqb (sub_id x) nid (λ e. absurd (omega (arith, lt, le, e)))) (find-below (suc (sub_id x)) nid xs p.1 (omega arith))

from-first : (low : ℕ) (x : Sub) (xs : List Sub) → keys_ascend sub_id low (x ∷ xs) ≡ true → keys_ascend sub_id (sub_id x) (x ∷ xs) ≡ true
from-first low x xs ascend =
    and_from (nat_le (sub_id x) (sub_id x)) (keys_ascend sub_id (suc (sub_id x)) xs) (le-leb (sub_id x) (sub_id x) (omega arith)) (and_parts (nat_le low (sub_id x)) (keys_ascend sub_id (suc (sub_id x)) xs) ascend).1

first-above : (low : ℕ) (x : Sub) (xs : List Sub) → keys_ascend sub_id low (x ∷ xs) ≡ true → low ≤ sub_id x
first-above low x xs ascend = leb-true low (sub_id x) (and_parts (nat_le low (sub_id x)) (keys_ascend sub_id (suc (sub_id x)) xs) ascend).0

-- where the same is found, the first aren't apart
not-apart : (low : ℕ) (x y : Sub) (xs ys : List Sub) → keys_ascend sub_id low (y ∷ ys) ≡ true → sub_id x < sub_id y → find_key sub_id (sub_id x) (x ∷ xs) ≡ find_key sub_id (sub_id x) (y ∷ ys) → ⊥
not-apart low x y xs ys ascend lt same = none-some x (sym (find-below (sub_id y) (sub_id x) (y ∷ ys) (from-first low y ys ascend) lt) ∙ sym same ∙ find-first x xs)

-- ascending lists with the same subnodes at each id are the same
pub same-found : (low : ℕ) (xs ys : List Sub) → keys_ascend sub_id low xs ≡ true → keys_ascend sub_id low ys ≡ true → ((nid : ℕ) → low ≤ nid → find_key sub_id nid xs ≡ find_key sub_id nid ys) → xs ≡ ys
same-found low [] [] a b same = refl
same-found low [] (y ∷ ys) a b same = absurd (none-some y (same (sub_id y) (first-above low y ys b) ∙ find-first y ys))
same-found low (x ∷ xs) [] a b same = absurd (none-some x (sym (same (sub_id x) (first-above low x xs a)) ∙ find-first x xs))
same-found low (x ∷ xs) (y ∷ ys) a b same =
    let xs_ascend = (and_parts (nat_le low (sub_id x)) (keys_ascend sub_id (suc (sub_id x)) xs) a).1 in
    let ys_ascend = (and_parts (nat_le low (sub_id y)) (keys_ascend sub_id (suc (sub_id y)) ys) b).1 in
    elim (cases_lt (sub_id x) (sub_id y)) [
      | inl lt ↦ absurd (not-apart low x y xs ys b lt (same (sub_id x) (first-above low x xs a)))
      | inr ge ↦ elim (cases_lt (sub_id y) (sub_id x)) [
        | inl lt ↦ absurd (not-apart low y x ys xs a lt (sym (same (sub_id y) (first-above low y ys b))))
        | inr le ↦
            let id : sub_id y ≡ sub_id x = omega (arith, ge, le) in
            let first : x ≡ y = some-injective x y (sym (find-first x xs) ∙ same (sub_id x) (first-above low x xs a) ∙ ap (λ (n : ℕ). find_key sub_id n (y ∷ ys)) (sym id) ∙ find-first y ys) in
            let others : xs ≡ ys = same-found (suc (sub_id x)) xs ys xs_ascend (rw id at ys_ascend)
            (λ nid above. sym (find-later nid x xs (omega arith)) ∙ same nid (let le2 : low ≤ sub_id x = first-above low x xs a in omega arith) ∙ find-later nid y ys (omega (arith, id))) in
            ap (λ (s : Sub). s ∷ xs) first ∙ ap (λ (ss : List Sub). y ∷ ss) others
      ]
    ]
