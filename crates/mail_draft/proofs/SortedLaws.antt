-- Entries in the order of their ids.
use Rattle.std.proofs.Common.{◌≡◌, ◌∙◌, ℕ, ◌+◌, ◌≤◌, ◌<◌, T, true, cond, List, [], ◌∷◌, None, Some, refl, sym, ap, subst, arith}
use Rattle.std.proofs.lemmas.Bool.{and_from, and_parts}
use Rattle.std.proofs.Common.{Ordering, Less, Equal, Greater}
use Rattle.std.specs.Ordering.{nat_cmp, eq_by_cmp, is_eq, is_lt}
use Rattle.std.specs.Cmp.{nat_cmp_total, ranked}
use Rattle.std.specs.FinMap as map
use Rattle.std.specs.FinMap.Entries.{below_all, same_entries}
use Rattle.std.specs.List.{AllByRecursion}
use Rattle.std.specs.List.Sorted.{IsStrictlySortedBy}
use Rattle.std.specs.Map.{keys_of}

less-is : (r : Ordering) → is_lt r ≡ true → r ≡ Less
less-is Less h = refl
less-is Equal h = cc
less-is Greater h = cc

equal-is : (r : Ordering) → is_eq r ≡ true → r ≡ Equal
equal-is Less h = cc
equal-is Equal h = refl
equal-is Greater h = cc

-- ids that compare equal are one id
pub same-id : (q k : ℕ) → eq_by_cmp nat_cmp q k ≡ true → q ≡ k
same-id q k h = ranked q k Equal (sym (equal-is (nat_cmp q k) h))

below-id : (k q : ℕ) → is_lt (nat_cmp k q) ≡ true → k < q
below-id k q h = ranked k q Less (sym (less-is (nat_cmp k q) h))

-- no id of the entries is below this one
abbrev pub StartsAt : {X : Type 0} → ℕ → List (ℕ × X) → Type 0
StartsAt low [] = Unit {0}
StartsAt low (e ∷ es) = low ≤ e.0

module _ {X : Type 0} where
  below-keys : (k : ℕ) (es : List (ℕ × X)) → AllByRecursion (λ q. nat_cmp k q ≡ Less) (keys_of es) → below_all nat_cmp k es ≡ true
  below-keys k [] h = refl
  below-keys k (e ∷ es) h = and_from (is_lt (nat_cmp k e.0)) (below_all nat_cmp k es) (ap is_lt h.0) (below-keys k es h.1)

  -- the entries of a map are in order
  pub sorted-keys : (es : List (ℕ × X)) → IsStrictlySortedBy nat_cmp (keys_of es) → map.is_sorted nat_cmp es ≡ true
  unfolding IsStrictlySortedBy
  sorted-keys [] h = refl
  sorted-keys (e ∷ es) h = and_from (below_all nat_cmp e.0 es) (map.is_sorted nat_cmp es) (below-keys e.0 es h.0) (sorted-keys es h.1)

  -- entries in order are those of the map that is made of them
  pub entries-kept : (es : List (ℕ × X)) → map.is_sorted nat_cmp es ≡ true → map.entries (map.from_entries {R = nat_cmp} es) ≡ es
  entries-kept es h = same_entries nat_cmp nat_cmp_total map.nat_cmp-IsAntisymmetric (map.entries (map.from_entries {R = nat_cmp} es)) es
      (map.entries_sorted (map.from_entries es))
      (subst T (sym h) tt)
      (λ q. sym (map.get-entries (map.from_entries es) q) ∙ map.get-from_entries nat_cmp_total es q)

  pub sorted-rest : (e : ℕ × X) (es : List (ℕ × X)) → map.is_sorted nat_cmp (e ∷ es) ≡ true → map.is_sorted nat_cmp es ≡ true
  sorted-rest e es h = (and_parts (below_all nat_cmp e.0 es) (map.is_sorted nat_cmp es) h).1

  rest-starts : (k : ℕ) (es : List (ℕ × X)) → below_all nat_cmp k es ≡ true → StartsAt (k + 1) es
  rest-starts k [] h = tt
  rest-starts k (e ∷ es) h = let below = below-id k e.0 (and_parts (is_lt (nat_cmp k e.0)) (below_all nat_cmp k es) h).0 in omega arith

  -- the ids after the first are above it
  pub starts-after : (e : ℕ × X) (es : List (ℕ × X)) → map.is_sorted nat_cmp (e ∷ es) ≡ true → StartsAt (e.0 + 1) es
  starts-after e es h = rest-starts e.0 es (and_parts (below_all nat_cmp e.0 es) (map.is_sorted nat_cmp es) h).0

  not-among : (k : ℕ) (es : List (ℕ × X)) → below_all nat_cmp k es ≡ true → map.find nat_cmp k es ≡ None
  not-among k [] h = refl
  not-among k (e ∷ es) h =
      let parts = and_parts (is_lt (nat_cmp k e.0)) (below_all nat_cmp k es) h in
      ap (λ (r : Ordering). cond (is_eq r) (Some e.1) (map.find nat_cmp k es)) (less-is (nat_cmp k e.0) parts.0) ∙ not-among k es parts.1

  -- the first id isn't among the others
  pub first-once : (q : ℕ) (e : ℕ × X) (es : List (ℕ × X)) → map.is_sorted nat_cmp (e ∷ es) ≡ true → eq_by_cmp nat_cmp q e.0 ≡ true → map.find nat_cmp q es ≡ None
  first-once q e es h tied =
      ap (λ (k : ℕ). map.find nat_cmp k es) (same-id q e.0 tied) ∙ not-among e.0 es (and_parts (below_all nat_cmp e.0 es) (map.is_sorted nat_cmp es) h).0
