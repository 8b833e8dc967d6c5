-- What edits make of a list of entries, key by key.
use Rattle.std.proofs.Common.{Bool, ◌≡◌, ◌∙◌, inl, inr, ℕ, ◌+◌, ◌<◌, ◌≤◌, eqb, List, [], ◌∷◌, ◌++◌, Option, Some, None, refl, sym, ap, subst, arith, if◌then◌else◌}
use Rattle.std.proofs.lemmas.Bool.{cases_lt, cases_eq, lt-ltb, le-ltb, eq-eqb, ne_eqb}
use Rattle.tree_edit.specs.Edits.{under, over, given, edited, Keyed, AreEdits, entry_with, of_some, extra}
use Rattle.tree_edit.proofs.PutLaws.{AreFrom, from-none, with-behind, with-skip}
use Rattle.node_layout.specs.Lookups.{edit_at, or_old, Each, IsPut, EachPut, sum_of}

from-append : {E : Type 0} (key : E → ℕ) (k : ℕ) (xs ys : List E) → AreFrom key k xs → AreFrom key k ys → AreFrom key k (xs ++ ys)
from-append key k [] ys a b = b
from-append key k (x ∷ xs) ys a b = (a.0, from-append key k xs ys a.1 b)

from-over : {E : Type 0} (key : E → ℕ) (k : ℕ) (es : List E) → AreFrom key (k + 1) (over key k es)
from-over key k [] = tt
from-over key k (e ∷ es) = elim (cases_lt k (key e)) [ inl a ↦ rw (lt-ltb _ _ a) (omega arith, from-over key k es) | inr a ↦ rw (le-ltb _ _ a) (from-over key k es) ]

over-from : {E : Type 0} (key : E → ℕ) (k m : ℕ) (es : List E) → AreFrom key m es → AreFrom key m (over key k es)
over-from key k m [] a = tt
over-from key k m (e ∷ es) a = elim (cases_lt k (key e)) [ inl h ↦ rw (lt-ltb _ _ h) (a.0, over-from key k m es a.1) | inr h ↦ rw (le-ltb _ _ h) (over-from key k m es a.1) ]

under-from : {E : Type 0} (key : E → ℕ) (k m : ℕ) (es : List E) → AreFrom key m es → AreFrom key m (under key k es)
under-from key k m [] a = tt
under-from key k m (e ∷ es) a = elim (cases_lt (key e) k) [ inl h ↦ rw (lt-ltb _ _ h) (a.0, under-from key k m es a.1) | inr h ↦ rw (le-ltb _ _ h) (under-from key k m es a.1) ]

given-from : {E : Type 0} (key : E → ℕ) (k m : ℕ) (o : Option E) → Keyed key k o → m ≤ k → AreFrom key m (given o)
given-from key k m None a le = tt
given-from key k m (Some e) a le = (omega (arith, a, le), tt)

edited-from : {E : Type 0} (key : E → ℕ) (low high m : ℕ) (es : List E) (ds : List (ℕ × Option E)) → m ≤ low → AreFrom key m es → AreEdits key low high ds → AreFrom key m (edited key es ds)
edited-from key low high m es [] le a d = a
edited-from key low high m es (x ∷ ds) le a d =
    let lx = d.0 in
    from-append key m (under key x.0 es) (given x.1 ++ edited key (over key x.0 es) ds) (under-from key x.0 m es a)
    (from-append key m (given x.1) (edited key (over key x.0 es) ds) (given-from key x.0 m x.1 d.2 (omega (arith, le, lx)))
    (edited-from key (x.0 + 1) high m (over key x.0 es) ds (omega (arith, le, lx)) (over-from key x.0 m es a) d.3))

-- ---- one key

under-with : {E : Type 0} (key : E → ℕ) (k d : ℕ) (es : List E) → k < d → entry_with key k (under key d es) ≡ entry_with key k es
under-with key k d [] lt = refl
under-with key k d (e ∷ es) lt = elim (cases_lt (key e) d) [
  | inl a ↦ rw (lt-ltb _ _ a) (ap (λ (o : Option _). if eqb (key e) k then Some e else o) (under-with key k d es lt))
  | inr a ↦ rw (le-ltb _ _ a, ne_eqb (key e) k (λ h. absurd (omega (arith, h, a, lt)))) (under-with key k d es lt)
]

under-none : {E : Type 0} (key : E → ℕ) (k d : ℕ) (es : List E) → d ≤ k → entry_with key k (under key d es) ≡ None
under-none key k d [] le = refl
under-none key k d (e ∷ es) le = elim (cases_lt (key e) d) [
  | inl a ↦ rw (lt-ltb _ _ a, ne_eqb (key e) k (λ h. absurd (omega (arith, h, a, le)))) (under-none key k d es le)
  | inr a ↦ rw (le-ltb _ _ a) (under-none key k d es le)
]

over-with : {E : Type 0} (key : E → ℕ) (k d : ℕ) (es : List E) → d < k → entry_with key k (over key d es) ≡ entry_with key k es
over-with key k d [] lt = refl
over-with key k d (e ∷ es) lt = elim (cases_lt d (key e)) [
  | inl a ↦ rw (lt-ltb _ _ a) (ap (λ (o : Option _). if eqb (key e) k then Some e else o) (over-with key k d es lt))
  | inr a ↦ rw (le-ltb _ _ a, ne_eqb (key e) k (λ h. absurd (omega (arith, h, a, lt)))) (over-with key k d es lt)
]

given-other : {E : Type 0} (key : E → ℕ) (k d : ℕ) (o : Option E) → Keyed key d o → (d ≡ k → ⊥) → entry_with key k (given o) ≡ None
given-other key k d None a ne = refl
given-other key k d (Some e) a ne = rw (ne_eqb (key e) k (λ h. ne (sym a ∙ h))) refl

given-here : {E : Type 0} (key : E → ℕ) (k : ℕ) (o : Option E) → Keyed key k o → entry_with key k (given o) ≡ o
given-here key k None a = refl
given-here key k (Some e) a = rw (eq-eqb (key e) k a) refl

pub edits-none : {E : Type 0} (key : E → ℕ) (low high k : ℕ) (ds : List (ℕ × Option E)) → k < low → AreEdits key low high ds → edit_at k ds ≡ None
edits-none key low high k [] lt d = refl
edits-none key low high k (x ∷ ds) lt d = let a = d.0 in rw (ne_eqb x.0 k (λ h. absurd (omega (arith, h, a, lt)))) (edits-none key (x.0 + 1) high k ds (omega (arith, a, lt)) d.3)

-- the entry of a key after edits is that of its edit, or the old one
pub with-edited : {E : Type 0} (key : E → ℕ) (low high k : ℕ) (es : List E) (ds : List (ℕ × Option E)) → AreEdits key low high ds → entry_with key k (edited key es ds) ≡ or_old (edit_at k ds) (entry_with key k es)
with-edited key low high k es [] d = refl
with-edited {E} key low high k es (x ∷ ds) d =
    let later : List E = edited key (over key x.0 es) ds in
    let from : AreFrom key (x.0 + 1) later = edited-from key (x.0 + 1) high (x.0 + 1) (over key x.0 es) ds (omega arith) (from-over key x.0 es) d.3 in
    elim (cases_eq x.0 k) [
      | inl same ↦
          let none : entry_with key k later ≡ None = from-none key k later (subst (λ (m : ℕ). AreFrom key (m + 1) later) same from) in
          with-skip key k (under key x.0 es) (given x.1 ++ later) (under-none key k x.0 es (omega (arith, same)))
          ∙ with-behind key k (given x.1) later none
          ∙ given-here key k x.1 (subst (λ (m : ℕ). Keyed key m x.1) same d.2)
          ∙ ap (λ (b : Bool). or_old (if b then Some x.1 else edit_at k ds) (entry_with key k es)) (sym (eq-eqb x.0 k same))
      | inr other ↦ elim (cases_lt k x.0) [
        | inl lt ↦
            let none : entry_with key k (given x.1 ++ later) ≡ None =
            with-skip key k (given x.1) later (given-other key k x.0 x.1 d.2 other) ∙ from-none key k later (from-less key (k + 1) (x.0 + 1) later (omega (arith, lt)) from) in
            with-behind key k (under key x.0 es) (given x.1 ++ later) none
            ∙ under-with key k x.0 es lt
            ∙ ap (λ (o : Option (Option E)). or_old o (entry_with key k es)) (sym (edits-none key (x.0 + 1) high k ds (omega (arith, lt)) d.3))
            ∙ ap (λ (b : Bool). or_old (if b then Some x.1 else edit_at k ds) (entry_with key k es)) (sym (ne_eqb x.0 k other))
        | inr le ↦
            with-skip key k (under key x.0 es) (given x.1 ++ later) (under-none key k x.0 es le)
            ∙ with-skip key k (given x.1) later (given-other key k x.0 x.1 d.2 other)
            ∙ with-edited key (x.0 + 1) high k (over key x.0 es) ds d.3
            ∙ ap (or_old (edit_at k ds)) (over-with key k x.0 es (lt_of k x.0 other le))
            ∙ ap (λ (b : Bool). or_old (if b then Some x.1 else edit_at k ds) (entry_with key k es)) (sym (ne_eqb x.0 k other))
      ]
    ]
  where
    from-less : {E : Type 0} (key : E → ℕ) (m k : ℕ) (es : List E) → m ≤ k → AreFrom key k es → AreFrom key m es
    from-less key m k [] le a = tt
    from-less key m k (e ∷ es) le a = let x = a.0 in (omega (arith, x, le), from-less key m k es le a.1)

    lt_of : (k d : ℕ) → (d ≡ k → ⊥) → d ≤ k → d < k
    lt_of k d ne le = elim (cases_lt d k) [ inl a ↦ a | inr a ↦ absurd (ne (omega (arith, a, le))) ]

-- ---- all entries

each-append : {E : Type 0} (P : E → Type 0) (xs ys : List E) → Each P xs → Each P ys → Each P (xs ++ ys)
each-append P [] ys a b = b
each-append P (x ∷ xs) ys a b = (a.0, each-append P xs ys a.1 b)

each-given : {E : Type 0} (P : E → Type 0) (o : Option E) → IsPut P o → Each P (given o)
each-given P None a = tt
each-given P (Some e) a = (a, tt)

-- before a key, of entries that have P unless an edit from that key on takes them
each-under : {E : Type 0} (P : E → Type 0) (key : E → ℕ) (high k : ℕ) (es : List E) (x : ℕ × Option E) (ds : List (ℕ × Option E)) → k ≡ x.0 → AreEdits key (k + 1) high ds
    → Each (λ e. edit_at (key e) (x ∷ ds) ≡ None → P e) es → Each P (under key k es)
each-under P key high k [] x ds same d a = tt
each-under P key high k (e ∷ es) x ds same d a = elim (cases_lt (key e) k) [
  | inl h ↦
      let none : edit_at (key e) (x ∷ ds) ≡ None = rw (ne_eqb x.0 (key e) (λ s. absurd (omega (arith, s, h, same)))) (edits-none key (k + 1) high (key e) ds (omega (arith, h)) d) in
      rw (lt-ltb _ _ h) (a.0 none, each-under P key high k es x ds same d a.1)
  | inr h ↦ rw (le-ltb _ _ h) (each-under P key high k es x ds same d a.1)
]

each-over : {E : Type 0} (P : E → Type 0) (key : E → ℕ) (k : ℕ) (es : List E) (x : ℕ × Option E) (ds : List (ℕ × Option E)) → k ≡ x.0
    → Each (λ e. edit_at (key e) (x ∷ ds) ≡ None → P e) es → Each (λ e. edit_at (key e) ds ≡ None → P e) (over key k es)
each-over P key k [] x ds same a = tt
each-over P key k (e ∷ es) x ds same a = elim (cases_lt k (key e)) [
  | inl h ↦ rw (lt-ltb _ _ h) ((λ none. a.0 (rw (ne_eqb x.0 (key e) (λ s. absurd (omega (arith, s, h, same)))) none)), each-over P key k es x ds same a.1)
  | inr h ↦ rw (le-ltb _ _ h) (each-over P key k es x ds same a.1)
]

each-all : {E : Type 0} (P : E → Type 0) (f : E → Option (Option E)) (es : List E) → ((e : E) → f e ≡ None) → Each (λ e. f e ≡ None → P e) es → Each P es
each-all P f [] none a = tt
each-all P f (e ∷ es) none a = (a.0 (none e), each-all P f es none a.1)

-- each entry after edits has P, where those put have it, and those from before that no edit takes
pub each-edited : {E : Type 0} (P : E → Type 0) (key : E → ℕ) (low high : ℕ) (es : List E) (ds : List (ℕ × Option E)) → AreEdits key low high ds
    → Each (λ e. edit_at (key e) ds ≡ None → P e) es → EachPut P ds → Each P (edited key es ds)
each-edited {E} P key low high es [] d a puts = each-all P (λ e. edit_at {E = E} (key e) []) es (λ e. refl) a
each-edited P key low high es (x ∷ ds) d a puts =
    each-append P (under key x.0 es) (given x.1 ++ edited key (over key x.0 es) ds) (each-under P key high x.0 es x ds refl d.3 a)
    (each-append P (given x.1) (edited key (over key x.0 es) ds) (each-given P x.1 puts.0)
    (each-edited P key (x.0 + 1) high (over key x.0 es) ds d.3 (each-over P key x.0 es x ds refl a) puts.1))

-- ---- sums

pub sum-append : {E : Type 0} (f : E → ℕ) (xs ys : List E) → sum_of f (xs ++ ys) ≡ sum_of f xs + sum_of f ys
sum-append f [] ys = omega arith
sum-append f (x ∷ xs) ys = let h = sum-append f xs ys in omega (arith, h)

pub sum-given : {E : Type 0} (f : E → ℕ) (o : Option E) → sum_of f (given o) ≡ of_some f o
sum-given f None = refl
sum-given f (Some e) = omega arith

-- the entries below a key, that of the key and those above it
sum-parts : {E : Type 0} (key f : E → ℕ) (k : ℕ) (es : List E) → sum_of f (under key k es) + of_some f (entry_with key k es) + sum_of f (over key k es) ≤ sum_of f es
sum-parts key f k [] = omega arith
sum-parts {E} key f k (e ∷ es) =
    let h = sum-parts key f k es in
    elim (cases_lt (key e) k) [
      | inl a ↦ rw (lt-ltb _ _ a, le-ltb k (key e) (omega (arith, a)), ne_eqb (key e) k (λ s. absurd (omega (arith, s, a)))) (omega (arith, h))
      | inr a ↦ elim (cases_lt k (key e)) [
        | inl b ↦ rw (le-ltb _ _ a, lt-ltb _ _ b, ne_eqb (key e) k (λ s. absurd (omega (arith, s, b)))) (omega (arith, h))
        | inr b ↦ rw (le-ltb _ _ a, le-ltb _ _ b, eq-eqb (key e) k (omega (arith, a, b))) (omega (arith, h))
      ]
    ]

extra-over : {E : Type 0} (key f : E → ℕ) (low high k : ℕ) (es : List E) (ds : List (ℕ × Option E)) → k < low → AreEdits key low high ds → extra key f (over key k es) ds ≡ extra key f es ds
extra-over key f low high k es [] lt d = refl
extra-over key f low high k es (x ∷ ds) lt d =
    let a = d.0 in
    let here = over-with key x.0 k es (omega (arith, a, lt)) in
    let rest = extra-over key f (x.0 + 1) high k es ds (omega (arith, a, lt)) d.3 in
    rw (here, rest) refl

-- a sum over the entries after edits
pub sum-edited : {E : Type 0} (key f : E → ℕ) (low high : ℕ) (es : List E) (ds : List (ℕ × Option E)) → AreEdits key low high ds → sum_of f (edited key es ds) ≤ sum_of f es + extra key f es ds
sum-edited key f low high es [] d = omega arith
sum-edited {E} key f low high es (x ∷ ds) d =
    let later : List E = edited key (over key x.0 es) ds in
    let parts = sum-parts key f x.0 es in
    let rest = sum-edited key f (x.0 + 1) high (over key x.0 es) ds d.3 in
    let same = extra-over key f (x.0 + 1) high x.0 es ds (omega arith) d.3 in
    let one = sum-append f (under key x.0 es) (given x.1 ++ later) in
    let two = sum-append f (given x.1) later in
    let three = sum-given f x.1 in
    omega (arith, parts, rest, same, one, two, three)
