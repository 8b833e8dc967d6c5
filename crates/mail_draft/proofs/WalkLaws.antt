-- A walk over the nodes of a tree finds the greatest index.
use Rattle.std.proofs.Common.{◌≡◌, ℕ, zero, suc, ◌+◌, ◌*◌, ◌==◌, ◌<◌, ◌≤◌, ◌⊎◌, ◌^◌, Bool, true, false, nat_lt, max, List, [], ◌∷◌, None, Some, get_or, add-one, refl, sym, ◌∙◌, ap, inl, inr, arith}
use Rattle.std.proofs.lemmas.Bool.{and_parts, cases_Bool, cases_lt, cases_eq, eq-eqb, eqb-true, ltb-true}
use Rattle.std.specs.List.{list_any}
use Rattle.pst_base.specs.Ids.{index_of, kind_of, nid_of}
use Rattle.pst_base.specs.declared.ids.Nid.{Nid}
use Rattle.mail_tree.specs.Tree.{Tree}
use Rattle.mail_tree.specs.Ids.{greatest, is_taken, is_used, next_index}
use Rattle.mail_draft.specs.Walks.{IsNextTaken, are_kinds}

-- of the indexes of these kinds, this is the greatest of those of nodes up to an id and of the counter
pub record Reaches (T : Tree) (kinds : List ℕ) (counter at n : ℕ) : Type 0 where
  pub past : counter * 32 + 31 ≤ at
  pub low : counter ≤ n
  pub fits : n ≤ 134217727
  pub own : (n ≡ counter) ⊎ (is_used T kinds n ≡ true)
  pub above : (k i : ℕ) → list_any (λ x. x == k) kinds ≡ true → nid_of k i ≤ at → is_taken T (nid_of k i) ≡ true → i ≤ n

has : (test : ℕ → Bool) (k : ℕ) (ks : List ℕ) → list_any (λ x. x == k) ks ≡ true → test k ≡ true → list_any test ks ≡ true
has test k [] e t = cc
has test k (x ∷ ks) e t = elim (cases_Bool (x == k)) [
  | inl y ↦ let same : x ≡ k = eqb-true x k y in rw (same, t) refl
  | inr n ↦ let others : list_any (λ z. z == k) ks ≡ true = rw n at e in
      elim (cases_Bool (test x)) [ inl y ↦ rw y refl | inr m ↦ rw m (has test k ks others t) ]
]

-- what has a test in a list
one_has : (test : ℕ → Bool) (ks : List ℕ) → list_any test ks ≡ true → (k : ℕ) × (list_any (λ x. x == k) ks ≡ true) × (test k ≡ true)
one_has test [] e = cc
one_has test (x ∷ ks) e = elim (cases_Bool (test x)) [
  | inl y ↦ (x, rw (eq-eqb x x refl) refl, y)
  | inr n ↦ let others : list_any test ks ≡ true = rw n at e in
      let found = one_has test ks others in
      (found.0, elim (cases_Bool (x == found.0)) [ inl y ↦ rw y refl | inr m ↦ rw m found.1 ], found.2)
]

kind_below : (k : ℕ) (ks : List ℕ) → are_kinds ks ≡ true → list_any (λ x. x == k) ks ≡ true → k < 32
kind_below k [] all e = cc
kind_below k (x ∷ ks) all e =
    let p = and_parts (nat_lt x 32) (are_kinds ks) all in
    elim (cases_Bool (x == k)) [
      | inl y ↦ let same : x ≡ k = eqb-true x k y in omega (arith, ltb-true x 32 p.0)
      | inr n ↦ let others : list_any (λ z. z == k) ks ≡ true = rw n at e in kind_below k ks p.1 others
    ]

-- up to the last node of the counter's index
pub reaches_counter : (T : Tree) (kinds : List ℕ) (counter at : ℕ) → are_kinds kinds ≡ true → counter ≤ 134217727 → at ≡ nid_of 31 counter → Reaches T kinds counter at counter
reaches_counter T kinds counter at all within e = record {
  past = omega arith;
  low = omega arith;
  fits = within;
  own = inl refl;
  above = λ k i of below taken. omega arith;
}

-- a node of one of these kinds
pub reaches_kind : (T : Tree) (kinds : List ℕ) (counter at n index : ℕ) (next : Nid) → next.bits < 2 ^ 32 → IsNextTaken T at (Some next) → index ≡ index_of next.bits
    → list_any (λ x. x == kind_of next.bits) kinds ≡ true → Reaches T kinds counter at n → Reaches T kinds counter next.bits index
reaches_kind T kinds counter at n index next fits after is of before =
    let nid : nid_of (kind_of next.bits) index ≡ next.bits = omega (arith, is) in
    let taken : is_taken T (nid_of (kind_of next.bits) index) ≡ true = ap (is_taken T) nid ∙ after.1 in
    record {
      past = omega (arith, before.past, after.0);
      low = omega (arith, before.past, after.0, is);
      fits = omega (arith, is, fits);
      own = inr (has (λ kind. is_taken T (nid_of kind index)) (kind_of next.bits) kinds of taken);
      above = λ k i of below taken. omega (arith, is);
    }

-- a node of another kind
pub reaches_other : (T : Tree) (kinds : List ℕ) (counter at n : ℕ) (next : Nid) → are_kinds kinds ≡ true → IsNextTaken T at (Some next)
    → list_any (λ x. x == kind_of next.bits) kinds ≡ false → Reaches T kinds counter at n → Reaches T kinds counter next.bits n
reaches_other T kinds counter at n next all after other before = record {
  past = omega (arith, before.past, after.0);
  low = before.low;
  fits = before.fits;
  own = before.own;
  above = λ k i of below taken. elim (cases_lt at (nid_of k i)) [
    | inr up ↦ before.above k i of up taken
    | inl past ↦ elim (cases_lt (nid_of k i) next.bits) [
      | inl inside ↦ cc (after.2 (nid_of k i) past inside)
      | inr end ↦
          let small : k < 32 = kind_below k kinds all of in
          let same : k ≡ kind_of next.bits = omega arith in
          let found : list_any (λ x. x == kind_of next.bits) kinds ≡ true = ap (λ j. list_any (λ x. x == j) kinds) (sym same) ∙ of in
          cc
    ]
  ];
}

greatest_own : (test : ℕ → Bool) (m : ℕ) → (greatest test m ≡ 0) ⊎ (test (greatest test m) ≡ true)
unfolding greatest
greatest_own test zero = inl refl
greatest_own test (suc m) = elim (cases_Bool (test (suc m))) [ inl y ↦ inr (rw y y) | inr n ↦ rw n (greatest_own test m) ]

greatest_fits : (test : ℕ → Bool) (m : ℕ) → greatest test m ≤ m
unfolding greatest
greatest_fits test zero = omega arith
greatest_fits test (suc m) = elim (cases_Bool (test (suc m))) [ inl y ↦ rw y (omega arith) | inr n ↦ rw n (omega (arith, greatest_fits test m)) ]

greatest_above : (test : ℕ → Bool) (m k : ℕ) → 0 < k → k ≤ m → test k ≡ true → k ≤ greatest test m
unfolding greatest
greatest_above test zero k more le t = omega arith
greatest_above test (suc m) k more le t = elim (cases_Bool (test (suc m))) [
  | inl y ↦ rw y le
  | inr n ↦ rw n (elim (cases_eq k (suc m)) [
    | inl same ↦ let yes : test (suc m) ≡ true = ap test (sym same) ∙ t in cc
    | inr apart ↦ greatest_above test m k more (omega arith) t
  ])
]

-- after the last node it is the greatest of all
pub reaches_all : (T : Tree) (kinds : List ℕ) (counter at n : ℕ) → IsNextTaken T at None → Reaches T kinds counter at n → n ≡ max counter (greatest (is_used T kinds) 134217727)
reaches_all T kinds counter at n none all =
    let top : greatest (is_used T kinds) 134217727 ≤ n = elim (greatest_own (is_used T kinds) 134217727) [
      | inl zero_is ↦ omega (arith, zero_is)
      | inr used ↦ let found = one_has (λ kind. is_taken T (nid_of kind (greatest (is_used T kinds) 134217727))) kinds used in
          elim (cases_lt at (nid_of found.0 (greatest (is_used T kinds) 134217727))) [
            | inl past ↦ cc (none (nid_of found.0 (greatest (is_used T kinds) 134217727)) past, found.2)
            | inr up ↦ all.above found.0 (greatest (is_used T kinds) 134217727) found.1 up found.2
          ]
    ] in
    elim all.own [
      | inl same ↦ omega (arith, top)
      | inr used ↦ elim (cases_eq n 0) [
        | inl none ↦ omega (arith, top, all.low)
        | inr some ↦ omega (arith, top, all.low, greatest_above (is_used T kinds) 134217727 n (omega arith) all.fits used)
      ]
    ]

-- a counter past the last index is above all
pub counter_past : (T : Tree) (kinds : List ℕ) (counter : ℕ) → 134217727 < counter → counter ≡ max counter (greatest (is_used T kinds) 134217727)
counter_past T kinds counter past = omega (arith, greatest_fits (is_used T kinds) 134217727)

-- the next index follows both
pub next_is : (T : Tree) (kind : ℕ) (kinds last : List ℕ) (n m : ℕ) → last ≡ T.last → n ≡ m → m ≡ max (get_or last kind 0) (greatest (is_used T kinds) 134217727)
    → n + 1 ≡ next_index T kind kinds
unfolding next_index
next_is T kind kinds last n m counters same is =
    ap (λ k. k + 1) (same ∙ is) ∙ add-one (max (get_or last kind 0) (greatest (is_used T kinds) 134217727))
    ∙ ap (λ ls. suc (max (get_or ls kind 0) (greatest (is_used T kinds) 134217727))) counters
