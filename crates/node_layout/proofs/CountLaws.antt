-- Counts of references, before and after edits.
use Rattle.std.proofs.Common.{Bool, true, false, not, ◌≡◌, ◌∙◌, inl, inr, ℕ, ◌+◌, ◌^◌, ◌≤◌, eqb, List, [], ◌∷◌, ◌++◌, Option, Some, None, refl, sym, ap, arith, if◌then◌else◌}
use Rattle.std.proofs.lemmas.Bool.{cases_lt, eq-eqb, ne_eqb, lt-ltb, le-ltb}
use Rattle.btree_pages.specs.declared.entry.BlockEntry.{BlockEntry}
use Rattle.btree_pages.specs.declared.entry.NodeEntry.{NodeEntry}
use Rattle.file_blocks.specs.Blocks.{entry_key}
use Rattle.lays_kept.specs.Grown.{NeedsOnly}
use Rattle.tree_edit.specs.Edits.{under, over, given, edited, AreEdits, entry_with}
use Rattle.node_layout.specs.Lookups.{edit_at, or_old, Each, sum_of, AllIn}
use Rattle.node_reach.specs.Reach.{node_keys}
use Rattle.data_tree.specs.Keys.{count_of}
use Rattle.node_layout.specs.Counts.{is_edit, sum_if, sum_put, is_edited, uses, AreRefs, taken, put, refs_after, FreesUnused, NoneUnused}
use Rattle.node_layout.specs.Joined.{node_id, AllNeedOnly}
use Rattle.node_layout.proofs.LookupLaws.{with-edited, edits-none, sum-append, sum-given}
use Rattle.node_layout.proofs.ReachLaws.{needs-reached}

-- those chosen and the others
sum-split : {E : Type 0} (p : E → Bool) (f : E → ℕ) (es : List E) → sum_of f es ≡ sum_if p f es + sum_if (λ e. not (p e)) f es
sum-split p f [] = refl
sum-split p f (e ∷ es) = by (p e) (sum-split p f es)
  where
    by : (b : Bool) → sum_of f es ≡ sum_if p f es + sum_if (λ e. not (p e)) f es → f e + sum_of f es ≡ ((if b then f e else 0) + sum_if p f es) + ((if not b then f e else 0) + sum_if (λ e. not (p e)) f es)
    by true h = omega (arith, h)
    by false h = omega (arith, h)

-- a count is at least that of one of them
each-counted : {E : Type 0} (p : E → Bool) (f : E → ℕ) (es : List E) (k : ℕ) → Each (λ e. p e ≡ false → f e ≤ k + sum_if (λ e. not (p e)) f es) es
each-counted p f [] k = tt
each-counted {E} p f (e ∷ es) k = (
  (λ out. ap-le (p e) out),
  weaker es (each-counted p f es (k + (if not (p e) then f e else 0))),
)
  where
    ap-le : (b : Bool) → b ≡ false → f e ≤ k + ((if not b then f e else 0) + sum_if (λ e. not (p e)) f es)
    ap-le true out = absurd (cc)
    ap-le false out = omega arith

    weaker : (xs : List E) → Each (λ x. p x ≡ false → f x ≤ (k + (if not (p e) then f e else 0)) + sum_if (λ e. not (p e)) f es) xs → Each (λ x. p x ≡ false → f x ≤ k + ((if not (p e) then f e else 0) + sum_if (λ e. not (p e)) f es)) xs
    weaker [] all = tt
    weaker (x ∷ xs) all = ((λ out. let h = all.0 out in omega (arith, h)), weaker xs all.1)

-- keys of a list that is counted stand in it
all-counted : (some : ℕ → Bool) (ks : List ℕ) → ((key : ℕ) → 1 ≤ count_of key ks → some key ≡ true) → AllIn some ks
all-counted some [] counted = tt
all-counted some (k ∷ ks) counted = (
  counted k (let e : ◌≡◌ {A = ℕ} (if eqb k k then 1 else 0) 1 = rw (eq-eqb k k refl) refl in omega (arith, e)),
  all-counted some ks (λ key one. counted key (omega (arith, one))),
)

each-not : (ds : List (ℕ × Option NodeEntry)) (e : NodeEntry) → edit_at (node_id e) ds ≡ None → is_edited node_id ds e ≡ false
each-not ds e none = ap is_edit none

-- the nodes that edits leave reach only blocks that are referred to after them
pub left-reach : (find : ℕ → Option (List ℕ)) (es : List NodeEntry) (ds : List (ℕ × Option NodeEntry)) (refs more : ℕ → ℕ) (some : ℕ → Bool) → AreRefs find es refs
    → ((key : ℕ) → 1 ≤ refs_after refs (taken find es ds) more key → some key ≡ true) → Each (λ e. edit_at (node_id e) ds ≡ None → AllIn some (node_keys find e)) es
left-reach find es ds refs more some are is_some = go es (λ key. each-counted (is_edited node_id ds) (uses find key) es 0)
  where
    go : (xs : List NodeEntry) → ((key : ℕ) → Each (λ e. is_edited node_id ds e ≡ false → uses find key e ≤ 0 + sum_if (λ e. not (is_edited node_id ds e)) (uses find key) es) xs) → Each (λ e. edit_at (node_id e) ds ≡ None → AllIn some (node_keys find e)) xs
    go [] all = tt
    go (x ∷ xs) all = (
      (λ none. all-counted some (node_keys find x) (λ key one.
          let a = (all key).0 (each-not ds x none) in
          let b = are key in
          let c = sum-split (is_edited node_id ds) (uses find key) es in
          is_some key (omega (arith, one, a, b, c)))),
      go xs (λ key. (all key).1),
    )

-- and need no others
pub left-needs : (find : ℕ → Option (List ℕ)) (eof : ℕ) (es : List NodeEntry) (ds : List (ℕ × Option NodeEntry)) (refs more : ℕ → ℕ) (some : ℕ → Bool) → AreRefs find es refs
    → ((key : ℕ) → 1 ≤ refs_after refs (taken find es ds) more key → some key ≡ true) → AllNeedOnly find eof es ds some
left-needs find eof es ds refs more some are is_some = go es (left-reach find es ds refs more some are is_some)
  where
    go : (xs : List NodeEntry) → Each (λ e. edit_at (node_id e) ds ≡ None → AllIn some (node_keys find e)) xs → Each (λ e. edit_at (node_id e) ds ≡ None → NeedsOnly find eof e some) xs
    go [] all = tt
    go (x ∷ xs) all = ((λ none. needs-reached find some eof x (all.0 none)), go xs all.1)

-- ---- the numbers after edits

sum-under : {E : Type 0} (key f : E → ℕ) (high : ℕ) (es : List E) (x : ℕ × Option E) (ds : List (ℕ × Option E)) → AreEdits key (x.0 + 1) high ds
    → sum_if (λ e. not (is_edited key (x ∷ ds) e)) f es ≡ sum_of f (under key x.0 es) + sum_if (λ e. not (is_edited key ds e)) f (over key x.0 es)
sum-under key f high [] x ds d = refl
sum-under {E} key f high (e ∷ es) x ds d =
    let rest = sum-under key f high es x ds d in
    elim (cases_lt (key e) x.0) [
      | inl a ↦
          let none : edit_at (key e) (x ∷ ds) ≡ None = rw (ne_eqb x.0 (key e) (λ s. absurd (omega (arith, s, a)))) (edits-none key (x.0 + 1) high (key e) ds (omega (arith, a)) d) in
          let one : is_edited key (x ∷ ds) e ≡ false = ap is_edit none in
          rw (lt-ltb _ _ a, le-ltb x.0 (key e) (omega (arith, a)), one) (omega (arith, rest))
      | inr a ↦ elim (cases_lt x.0 (key e)) [
        | inl b ↦ rw (le-ltb _ _ a, lt-ltb _ _ b, ne_eqb x.0 (key e) (λ s. absurd (omega (arith, s, b)))) (omega (arith, rest))
        | inr b ↦ rw (le-ltb _ _ a, le-ltb _ _ b, eq-eqb x.0 (key e) (omega (arith, a, b))) (omega (arith, rest))
      ]
    ]

sum-none : {E : Type 0} (f : E → ℕ) (es : List E) → sum_if (λ e. true) f es ≡ sum_of f es
sum-none f [] = refl
sum-none f (e ∷ es) = ap (λ (n : ℕ). f e + n) (sum-none f es)

-- a sum over edited entries: those left, and those put
pub sum-after : {E : Type 0} (key f : E → ℕ) (low high : ℕ) (es : List E) (ds : List (ℕ × Option E)) → AreEdits key low high ds
    → sum_of f (edited key es ds) ≡ sum_if (λ e. not (is_edited key ds e)) f es + sum_put f ds
sum-after key f low high es [] d = let h = sum-none f es in omega (arith, h)
sum-after {E} key f low high es (x ∷ ds) d =
    let later : List E = edited key (over key x.0 es) ds in
    let parts = sum-under key f high es x ds d.3 in
    let rest = sum-after key f (x.0 + 1) high (over key x.0 es) ds d.3 in
    let one = sum-append f (under key x.0 es) (given x.1 ++ later) in
    let two = sum-append f (given x.1) later in
    let three = sum-given f x.1 in
    omega (arith, parts, rest, one, two, three)

same-if : {E : Type 0} (p : E → Bool) (f h : E → ℕ) (es : List E) → Each (λ e. p e ≡ true → f e ≡ h e) es → sum_if p f es ≡ sum_if p h es
same-if p f h [] all = refl
same-if {E} p f h (e ∷ es) all = by (p e) (all.0) (same-if p f h es all.1)
  where
    by : (b : Bool) → (b ≡ true → f e ≡ h e) → sum_if p f es ≡ sum_if p h es → (if b then f e else 0) + sum_if p f es ≡ (if b then h e else 0) + sum_if p h es
    by true one rest = omega (arith, one refl, rest)
    by false one rest = omega (arith, rest)

-- the references after edits are those counted, where the nodes that are left reach what they reached
pub counted-after : (find after : ℕ → Option (List ℕ)) (es : List NodeEntry) (ds : List (ℕ × Option NodeEntry)) (refs : ℕ → ℕ) → AreEdits node_id 0 (2 ^ 64) ds → AreRefs find es refs
    → Each (λ e. edit_at (node_id e) ds ≡ None → node_keys after e ≡ node_keys find e) es → AreRefs after (edited node_id es ds) (refs_after refs (taken find es ds) (put after ds))
counted-after find after es ds refs d are same key =
    let a = are key in
    let b = sum-split (is_edited node_id ds) (uses find key) es in
    let c = sum-after node_id (uses after key) 0 (2 ^ 64) es ds d in
    let e = same-if (λ e. not (is_edited node_id ds e)) (uses after key) (uses find key) es (go es same) in
    omega (arith, a, b, c, e)
  where
    none-of : (o : Option (Option NodeEntry)) → not (is_edit o) ≡ true → o ≡ None
    none-of None h = refl
    none-of (Some x) h = absurd (cc)

    go : (xs : List NodeEntry) → Each (λ e. edit_at (node_id e) ds ≡ None → node_keys after e ≡ node_keys find e) xs → Each (λ e. not (is_edited node_id ds e) ≡ true → uses after key e ≡ uses find key e) xs
    go [] all = tt
    go (x ∷ xs) all = ((λ h. ap (count_of key) (all.0 (none-of (edit_at (node_id x) ds) h))), go xs all.1)

-- no block is left unused
pub none-unused : (old : List BlockEntry) (ds : List (ℕ × Option BlockEntry)) (refs after : ℕ → ℕ) → AreEdits entry_key 0 (2 ^ 64) ds → FreesUnused old ds refs after → NoneUnused old (edited entry_key old ds) refs after
none-unused old ds refs after d frees key e found gone =
    by (edit_at key ds) refl (entry_with entry_key key old) refl (sym (with-edited entry_key 0 (2 ^ 64) key old ds d) ∙ found)
  where
    unused : (edit_at key ds ≡ Some None → ⊥) → refs key ≡ 0
    unused never = elim (cases_lt 0 (refs key)) [ inl a ↦ absurd (never (frees.freed key gone a)) | inr a ↦ omega (arith, a) ]

    by : (o : Option (Option BlockEntry)) → edit_at key ds ≡ o → (p : Option BlockEntry) → entry_with entry_key key old ≡ p → or_old o p ≡ Some e → (refs key ≡ 0) × ((f : BlockEntry) × (entry_with entry_key key old ≡ Some f))
    by None is None was h = absurd (cc)
    by None is (Some f) was h = (unused (λ s. let clash : ◌≡◌ {A = Option (Option BlockEntry)} None (Some None) = sym is ∙ s in cc), (f, was))
    by (Some None) is p was h = absurd (cc)
    by (Some (Some g)) is None was h = absurd (let one = frees.fresh key g was is in omega (arith, one, gone))
    by (Some (Some g)) is (Some f) was h = (unused (λ s. let clash : ◌≡◌ {A = Option (Option BlockEntry)} (Some (Some g)) (Some None) = sym is ∙ s in cc), (f, was))
