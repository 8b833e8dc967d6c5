-- Edits of the block tree: numbers of references that change, and new blocks.
use Rattle.std.proofs.Common.{Bool, true, false, ◌≡◌, ◌∙◌, inl, inr, ℕ, ◌+◌, ◌^◌, ◌<◌, ◌≤◌, eqb, ltb, List, [], ◌∷◌, ◌++◌, length, map, Option, Some, None, refl, sym, ap, subst, arith, if◌then◌else◌}
use Rattle.std.proofs.lemmas.Bool.{cases_lt, cases_eq, lt-ltb, le-ltb, eq-eqb, ne_eqb}
use Rattle.btree_pages.specs.declared.entry.BlockEntry.{BlockEntry}
use Rattle.file_blocks.specs.Blocks.{Stands, data_at, entry_key, misplaced}
use Rattle.file_layout.specs.Nodes.{place_of}
use Rattle.alloc_map.specs.Tally.{one_at, tally}
use Rattle.tree_edit.specs.Edits.{AreEdits, Keyed, entry_with, extra, of_some}
use Rattle.node_layout.specs.Joined.{AreLeft, Recounts}
use Rattle.node_layout.specs.Lookups.{Each, EachPut, IsPut, edit_at, or_old, sum_of}
use Rattle.node_layout.proofs.LookupLaws.{edits-none}
use Rattle.node_layout.specs.Counts.{sum_put}
use Rattle.ref_counts.specs.declared.table.RefChange.{RefChange}
use Rattle.ref_counts.specs.Changes.{change_of, key_in, number_by}
use Rattle.ref_counts.specs.Tables.{Rises}
use Rattle.plan_drawing.specs.Recounts.{edit_of, puts_of, recounted, recounts, with_refs}

-- ---- entries by their keys

pub entry-has : {E : Type 0} (key : E → ℕ) (k : ℕ) (es : List E) (e : E) → entry_with key k es ≡ Some e → key e ≡ k
entry-has key k [] e h = absurd (cc)
entry-has {E} key k (x ∷ es) e h = elim (cases_eq (key x) k) [
  | inl same ↦ let is : ◌≡◌ {A = Option E} (Some x) (Some e) = sym (ap (λ (b : Bool). if b then Some x else entry_with key k es) (eq-eqb (key x) k same)) ∙ h in ap key (some-one is) ∙ same
  | inr other ↦ entry-has key k es e (sym (ap (λ (b : Bool). if b then Some x else entry_with key k es) (ne_eqb (key x) k other)) ∙ h)
]
  where
    some-one : ◌≡◌ {A = Option E} (Some x) (Some e) → e ≡ x
    some-one h = cc

-- an entry of the list has what each of it has
pub each-with : {E : Type 0} (P : E → Type 0) (key : E → ℕ) (k : ℕ) (es : List E) (e : E) → Each P es → entry_with key k es ≡ Some e → P e
each-with P key k [] e all h = absurd (cc)
each-with {E} P key k (x ∷ es) e all h = elim (cases_eq (key x) k) [
  | inl same ↦ let is : ◌≡◌ {A = Option E} (Some x) (Some e) = sym (ap (λ (b : Bool). if b then Some x else entry_with key k es) (eq-eqb (key x) k same)) ∙ h in subst P (some-one is) all.0
  | inr other ↦ each-with P key k es e all.1 (sym (ap (λ (b : Bool). if b then Some x else entry_with key k es) (ne_eqb (key x) k other)) ∙ h)
]
  where
    some-one : ◌≡◌ {A = Option E} (Some x) (Some e) → x ≡ e
    some-one h = cc

-- ---- two lists of edits

pub edits-lower : {E : Type 0} (key : E → ℕ) (low mid high : ℕ) (ds : List (ℕ × Option E)) → low ≤ mid → AreEdits key mid high ds → AreEdits key low high ds
edits-lower key low mid high [] le are = tt
edits-lower key low mid high (d ∷ ds) le are = let a = are.0 in (omega (arith, a, le), are.1, are.2, are.3)

pub edits-append : {E : Type 0} (key : E → ℕ) (low mid high : ℕ) (xs ys : List (ℕ × Option E)) → low ≤ mid → mid ≤ high → AreEdits key low mid xs → AreEdits key mid high ys → AreEdits key low high (xs ++ ys)
edits-append key low mid high [] ys le most one two = edits-lower key low mid high ys le two
edits-append key low mid high (x ∷ xs) ys le most one two = let a = one.1 in (one.0, omega (arith, a, most), one.2, edits-append key (x.0 + 1) mid high xs ys (omega (arith, a)) most one.3 two)

pub edit-front : {E : Type 0} (key : E → ℕ) (mid high k : ℕ) (xs ys : List (ℕ × Option E)) → k < mid → AreEdits key mid high ys → edit_at k (xs ++ ys) ≡ edit_at k xs
edit-front key mid high k [] ys lt are = edits-none key mid high k ys lt are
edit-front {E} key mid high k (x ∷ xs) ys lt are = ap (λ (o : Option (Option E)). if eqb x.0 k then Some x.1 else o) (edit-front key mid high k xs ys lt are)

pub edit-back : {E : Type 0} (key : E → ℕ) (low mid k : ℕ) (xs ys : List (ℕ × Option E)) → mid ≤ k → AreEdits key low mid xs → edit_at k (xs ++ ys) ≡ edit_at k ys
edit-back key low mid k [] ys le are = refl
edit-back key low mid k (x ∷ xs) ys le are = let a = are.1 in rw (ne_eqb x.0 k (λ h. absurd (omega (arith, h, a, le)))) (edit-back key (x.0 + 1) mid k xs ys le are.3)

pub extra-append : {E : Type 0} (key f : E → ℕ) (es : List E) (xs ys : List (ℕ × Option E)) → extra key f es (xs ++ ys) ≡ extra key f es xs + extra key f es ys
extra-append key f es [] ys = omega arith
extra-append key f es (x ∷ xs) ys = let h = extra-append key f es xs ys in omega (arith, h)

pub puts-append : {E : Type 0} (P : E → Type 0) (xs ys : List (ℕ × Option E)) → EachPut P xs → EachPut P ys → EachPut P (xs ++ ys)
puts-append P [] ys a b = b
puts-append P (x ∷ xs) ys a b = (a.0, puts-append P xs ys a.1 b)

pub put-sum-append : {E : Type 0} (f : E → ℕ) (xs ys : List (ℕ × Option E)) → sum_put f (xs ++ ys) ≡ sum_put f xs + sum_put f ys
put-sum-append f [] ys = omega arith
put-sum-append f (x ∷ xs) ys = let h = put-sum-append f xs ys in omega (arith, h)

-- ---- numbers that change

-- what becomes of an old entry by a change of its number
abbrev pub recount_by : Option RefChange → Option BlockEntry → Option (Option BlockEntry)
recount_by None o = None
recount_by (Some c) None = None
recount_by (Some c) (Some e) = Some (recounted e c.after)

edit-of-edits : (k high : ℕ) (o : Option BlockEntry) (c : RefChange) (rest : List (ℕ × Option BlockEntry)) → k ≤ c.key → c.key < high → ((e : BlockEntry) → o ≡ Some e → entry_key e ≡ c.key)
    → AreEdits entry_key (c.key + 1) high rest → AreEdits entry_key k high (edit_of o c ++ rest)
edit-of-edits k high None c rest le lt own are = edits-lower entry_key k (c.key + 1) high rest (omega (arith, le)) are
edit-of-edits k high (Some e) c rest le lt own are = (le, lt, keyed (eqb c.after 0), are)
  where
    keyed : (b : Bool) → Keyed entry_key c.key (if b then None else Some (with_refs e c.after))
    keyed true = tt
    keyed false = own e refl

pub recounts-edits : (es : List BlockEntry) (next low high : ℕ) (cs : List RefChange) → Rises key_in low high cs → AreEdits entry_key low next (recounts es next cs)
recounts-edits es next low high [] rises = tt
recounts-edits es next low high (c ∷ cs) rises = elim (cases_lt c.key next) [
  | inl lt ↦ rw (lt-ltb c.key next lt) (edit-of-edits low next (entry_with entry_key c.key es) c (recounts es next cs) rises.0 lt (λ e h. entry-has entry_key c.key es e h) (recounts-edits es next (c.key + 1) high cs rises.1))
  | inr le ↦ let a = rises.0 in rw (le-ltb c.key next le) (edits-lower entry_key low (c.key + 1) next (recounts es next cs) (omega (arith, a)) (recounts-edits es next (c.key + 1) high cs rises.1))
]

edit-of-here : (o : Option BlockEntry) (c : RefChange) (k : ℕ) (rest : List (ℕ × Option BlockEntry)) → c.key ≡ k → edit_at k rest ≡ None → edit_at k (edit_of o c ++ rest) ≡ recount_by (Some c) o
edit-of-here None c k rest same none = none
edit-of-here (Some e) c k rest same none = rw (eq-eqb c.key k same) refl

edit-of-other : (o : Option BlockEntry) (c : RefChange) (k : ℕ) (rest : List (ℕ × Option BlockEntry)) → (c.key ≡ k → ⊥) → edit_at k (edit_of o c ++ rest) ≡ edit_at k rest
edit-of-other None c k rest other = refl
edit-of-other (Some e) c k rest other = rw (ne_eqb c.key k other) refl

-- the edit of an old key is that of its change
pub recount-at : (es : List BlockEntry) (next low high k : ℕ) (cs : List RefChange) → k < next → Rises key_in low high cs → edit_at k (recounts es next cs) ≡ recount_by (change_of k cs) (entry_with entry_key k es)
recount-at es next low high k [] lt rises = refl
recount-at es next low high k (c ∷ cs) lt rises = elim (cases_eq c.key k) [
  | inl same ↦
      let here : c.key < next = omega (arith, same, lt) in
      let none : edit_at k (recounts es next cs) ≡ None = edits-none entry_key (c.key + 1) next k (recounts es next cs) (omega (arith, same)) (recounts-edits es next (c.key + 1) high cs rises.1) in
      rw (lt-ltb c.key next here, eq-eqb c.key k same)
      (edit-of-here (entry_with entry_key c.key es) c k (recounts es next cs) same none ∙ ap (λ (n : ℕ). recount_by (Some c) (entry_with entry_key n es)) same)
  | inr other ↦
      let rest = recount-at es next (c.key + 1) high k cs lt rises.1 in
      elim (cases_lt c.key next) [
        | inl here ↦ rw (lt-ltb c.key next here, ne_eqb c.key k other) (edit-of-other (entry_with entry_key c.key es) c k (recounts es next cs) other ∙ rest)
        | inr past ↦ rw (le-ltb c.key next past, ne_eqb c.key k other) rest
      ]
]

-- an entry whose block is referred to stays, but for its number
recounts-left : (e : BlockEntry) (o : Option RefChange) (before : ℕ) → 1 ≤ number_by o before → Recounts e (or_old (recount_by o (Some e)) (Some e))
recounts-left e None before some = (refl, refl)
recounts-left e (Some c) before some = rw (ne_eqb c.after 0 (λ h. absurd (omega (arith, h, some)))) (refl, refl)

-- by an equation of options
same-recounts : (e : BlockEntry) (o p : Option (Option BlockEntry)) → o ≡ p → Recounts e (or_old p (Some e)) → Recounts e (or_old o (Some e))
same-recounts e o p same is = subst (λ (x : Option (Option BlockEntry)). Recounts e (or_old x (Some e))) (sym same) is

pub blocks-left : (es : List BlockEntry) (next high : ℕ) (cs : List RefChange) (new : List (ℕ × Option BlockEntry)) (before after : ℕ → ℕ) → Rises key_in 0 high cs → AreEdits entry_key next (2 ^ 64) new
    → ((k : ℕ) (e : BlockEntry) → entry_with entry_key k es ≡ Some e → k < next) → ((k : ℕ) → number_by (change_of k cs) (before k) ≡ after k)
    → AreLeft es (recounts es next cs ++ new) (λ k. ltb 0 (after k))
blocks-left es next high cs new before after rises news below numbers k e is_some found =
    let lt : k < next = below k e found in
    let some : 1 ≤ after k = elim (cases_lt 0 (after k)) [ inl a ↦ a | inr a ↦ absurd (clash (sym is_some ∙ le-ltb 0 (after k) a)) ] in
    let number = numbers k in
    same-recounts e (edit_at k (recounts es next cs ++ new)) (recount_by (change_of k cs) (Some e))
    (edit-front entry_key next (2 ^ 64) k (recounts es next cs) new lt news ∙ recount-at es next 0 high k cs lt rises ∙ ap (recount_by (change_of k cs)) found)
    (recounts-left e (change_of k cs) (before k) (omega (arith, some, number)))
  where
    clash : ◌≡◌ {A = Bool} true false → ⊥
    clash h = cc

-- ---- sums

-- a number of an entry that its number of references doesn't change
abbrev pub IsSteady : (BlockEntry → ℕ) → Type 0
IsSteady f = (e : BlockEntry) (n : ℕ) → f (with_refs e n) ≡ f e

recounted-less : (f : BlockEntry → ℕ) → IsSteady f → (e : BlockEntry) (n : ℕ) → of_some f (recounted e n) ≤ f e
recounted-less f steady e n = by (eqb n 0)
  where
    by : (b : Bool) → of_some f (if b then None else Some (with_refs e n)) ≤ f e
    by true = omega arith
    by false = let h = steady e n in omega (arith, h)

edit-of-extra : (f : BlockEntry → ℕ) → IsSteady f → (es : List BlockEntry) (c : RefChange) (o : Option BlockEntry) → entry_with entry_key c.key es ≡ o → extra entry_key f es (edit_of o c) ≡ 0
edit-of-extra f steady es c None is = refl
edit-of-extra f steady es c (Some e) is = let less = recounted-less f steady e c.after in let same = ap (of_some f) is in omega (arith, less, same)

pub recounts-extra : (f : BlockEntry → ℕ) → IsSteady f → (es : List BlockEntry) (next : ℕ) (cs : List RefChange) → extra entry_key f es (recounts es next cs) ≡ 0
recounts-extra f steady es next [] = refl
recounts-extra f steady es next (c ∷ cs) =
    let rest = recounts-extra f steady es next cs in
    elim (cases_lt c.key next) [
      | inl lt ↦ rw (lt-ltb c.key next lt) (let a = extra-append entry_key f es (edit_of (entry_with entry_key c.key es) c) (recounts es next cs) in let b = edit-of-extra f steady es c (entry_with entry_key c.key es) refl in omega (arith, a, b, rest))
      | inr le ↦ rw (le-ltb c.key next le) rest
    ]

pub puts-extra : (f : BlockEntry → ℕ) (es news : List BlockEntry) → extra entry_key f es (puts_of news) ≤ sum_of f news
puts-extra f es [] = omega arith
puts-extra f es (e ∷ news) = let h = puts-extra f es news in omega (arith, h)

pub steady-slot : (slot : ℕ) → IsSteady (λ e. one_at slot (place_of e))
steady-slot slot e n = refl

pub sum-places : (slot : ℕ) (es : List BlockEntry) → sum_of (λ e. one_at slot (place_of e)) es ≡ tally slot (map place_of es)
sum-places slot [] = refl
sum-places slot (e ∷ es) = ap (λ (n : ℕ). one_at slot (place_of e) + n) (sum-places slot es)

pub sum-ones : (es : List BlockEntry) → sum_of (λ e. 1) es ≡ length es
sum-ones [] = refl
sum-ones (e ∷ es) = let h = sum-ones es in omega (arith, h)

-- ---- blocks that are whole

-- a whole block is whole whatever its number of references
with-refs-stands : (file : List ℕ) (eof : ℕ) (e : BlockEntry) (n : ℕ) → Stands file eof e → Stands file eof (with_refs e n)
unfolding data_at misplaced
with-refs-stands file eof e n is = is

recounted-stands : (file : List ℕ) (eof : ℕ) (e : BlockEntry) (n : ℕ) → Stands file eof e → IsPut (Stands file eof) (recounted e n)
recounted-stands file eof e n is = by (eqb n 0)
  where
    by : (b : Bool) → IsPut (Stands file eof) (if b then None else Some (with_refs e n))
    by true = tt
    by false = with-refs-stands file eof e n is

edit-of-stands : (file : List ℕ) (eof : ℕ) (es : List BlockEntry) (c : RefChange) (o : Option BlockEntry) → entry_with entry_key c.key es ≡ o → Each (Stands file eof) es → EachPut (Stands file eof) (edit_of o c)
edit-of-stands file eof es c None is all = tt
edit-of-stands file eof es c (Some e) is all = (recounted-stands file eof e c.after (each-with (Stands file eof) entry_key c.key es e all is), tt)

pub recounts-stand : (file : List ℕ) (eof : ℕ) (es : List BlockEntry) (next : ℕ) (cs : List RefChange) → Each (Stands file eof) es → EachPut (Stands file eof) (recounts es next cs)
recounts-stand file eof es next [] all = tt
recounts-stand file eof es next (c ∷ cs) all =
    let rest = recounts-stand file eof es next cs all in
    elim (cases_lt c.key next) [
      | inl lt ↦ rw (lt-ltb c.key next lt) (puts-append (Stands file eof) (edit_of (entry_with entry_key c.key es) c) (recounts es next cs) (edit-of-stands file eof es c (entry_with entry_key c.key es) refl all) rest)
      | inr le ↦ rw (le-ltb c.key next le) rest
    ]

pub each-put : (P : BlockEntry → Type 0) (es : List BlockEntry) → Each P es → EachPut P (puts_of es)
each-put P [] all = tt
each-put P (e ∷ es) all = (all.0, each-put P es all.1)
