-- Subnodes placed one after the other.
use Rattle.std.proofs.Common.{◌≡◌, ℕ, suc, ◌+◌, ◌-◌, ◌%◌, ◌<◌, ◌≤◌, ◌==◌, ◌&&◌, Bool, true, false, List, [], ◌∷◌, ◌++◌, map, Some, None, refl, sym, ap, ◌∙◌, inl, inr, if◌then◌else◌, append_assoc, arith, ◌||◌}
use Rattle.std.specs.Prelude.{nat_le, nat_lt, not}
use Rattle.std.proofs.lemmas.Bool.{and_from, and_parts, cases_Bool, cases_eq, cases_lt, eq-eqb, le-leb, leb-true, lt-ltb, ltb-true, ne_eqb}
use Rattle.std.proofs.lemmas.List.{append-nil, map_push}
use Rattle.pst_base.specs.Flat.{Flat}
use Rattle.pst_base.specs.Subs.{flattened, one_deeper}
use Rattle.pst_base.specs.declared.subs.Sub.{Sub}
use Rattle.property_context.specs.declared.placing.Placer.{Placer}
use Rattle.node_values.specs.Named.{KeepsData, pieces}
use Rattle.node_values.specs.Subnodes.{data_of, ids_ascend, without}
use Rattle.property_context.specs.Placing.{IsAhead, Placing, are_long, ids_below, is_id, placed_data, subnode}
use Rattle.node_values.proofs.SubLaws.{ascend-first, flattened-append, without-first}

-- ---- ids in order

below-deeper : (high : ℕ) (fs gs : List Flat) → ids_below high (map one_deeper fs ++ gs) ≡ ids_below high gs
below-deeper high [] gs = refl
below-deeper high (f ∷ fs) gs = rw (ne_eqb (f.level + 1) 0 (λ e. omega arith)) (below-deeper high fs gs)

below-first : (high : ℕ) (s : Sub) (subs : List Sub) → ids_below high (flattened (s ∷ subs)) ≡ (nat_lt s.nid.bits high && ids_below high (flattened subs))
below-first high s subs = ap (λ (b : Bool). nat_lt s.nid.bits high && b) (below-deeper high s.subs (flattened subs))

pub ascend-append : (low m : ℕ) (fs gs : List Flat) → low ≤ m → ids_ascend low fs ≡ true → ids_below m fs ≡ true → ids_ascend m gs ≡ true → ids_ascend low (fs ++ gs) ≡ true
ascend-append low m [] gs le a b c = lower low m gs le c
  where
    lower : (low high : ℕ) (fs : List Flat) → low ≤ high → ids_ascend high fs ≡ true → ids_ascend low fs ≡ true
    lower low high [] le h = refl
    lower low high (f ∷ fs) le h = elim (cases_Bool (f.level == 0)) [
      | inl t ↦
          let p = and_parts (nat_le high f.nid) (ids_ascend (suc f.nid) fs) (rw t at h) in
          rw t (and_from (nat_le low f.nid) (ids_ascend (suc f.nid) fs) (le-leb low f.nid (omega (arith, leb-true high f.nid p.0))) p.1)
      | inr e ↦ rw e (lower low high fs le (rw e at h))
    ]
ascend-append low m (f ∷ fs) gs le a b c = elim (cases_Bool (f.level == 0)) [
  | inl t ↦
      let p = and_parts (nat_le low f.nid) (ids_ascend (suc f.nid) fs) (rw t at a) in
      let q = and_parts (nat_lt f.nid m) (ids_below m fs) (rw t at b) in
      rw t (and_from (nat_le low f.nid) (ids_ascend (suc f.nid) (fs ++ gs)) p.0 (ascend-append (suc f.nid) m fs gs (omega (arith, ltb-true f.nid m q.0)) p.1 q.1 c))
  | inr e ↦ rw e (ascend-append low m fs gs le (rw e at a) (rw e at b) c)
]

pub below-append : (high : ℕ) (fs gs : List Flat) → ids_below high fs ≡ true → ids_below high gs ≡ true → ids_below high (fs ++ gs) ≡ true
below-append high [] gs a b = b
below-append high (f ∷ fs) gs a b = elim (cases_Bool (f.level == 0)) [
  | inl t ↦
      let p = and_parts (nat_lt f.nid high) (ids_below high fs) (rw t at a) in
      rw t (and_from (nat_lt f.nid high) (ids_below high (fs ++ gs)) p.0 (below-append high fs gs p.1 b))
  | inr e ↦ rw e (below-append high fs gs (rw e at a) b)
]

below-higher : (low high : ℕ) (fs : List Flat) → low ≤ high → ids_below low fs ≡ true → ids_below high fs ≡ true
below-higher low high [] le h = refl
below-higher low high (f ∷ fs) le h = elim (cases_Bool (f.level == 0)) [
  | inl t ↦
      let p = and_parts (nat_lt f.nid low) (ids_below low fs) (rw t at h) in
      rw t (and_from (nat_lt f.nid high) (ids_below high fs) (lt-ltb f.nid high (omega (arith, ltb-true f.nid low p.0))) (below-higher low high fs le p.1))
  | inr e ↦ rw e (below-higher low high fs le (rw e at h))
]

-- ---- those that go and those that stay

pub first-goes : (test : ℕ → Bool) (s : Sub) (subs : List Sub) → test s.nid.bits ≡ true → without test false (flattened (s ∷ subs)) ≡ without test false (flattened subs)
first-goes test s subs t = without-first test s subs ∙ pick (test s.nid.bits) t (without test false (flattened subs)) (flattened (s ∷ []) ++ without test false (flattened subs))
  where
    pick : (b : Bool) → b ≡ true → (x y : List Flat) → (if b then x else y) ≡ x
    pick b t x y = rw t refl

pub first-stays : (test : ℕ → Bool) (s : Sub) (subs : List Sub) → test s.nid.bits ≡ false → without test false (flattened (s ∷ subs)) ≡ flattened (s ∷ []) ++ without test false (flattened subs)
first-stays test s subs f = without-first test s subs ∙ pick (test s.nid.bits) f (without test false (flattened subs)) (flattened (s ∷ []) ++ without test false (flattened subs))
  where
    pick : (b : Bool) → b ≡ false → (x y : List Flat) → (if b then x else y) ≡ y
    pick b f x y = rw f refl

pub without-append : (test : ℕ → Bool) (xs ys : List Sub) → without test false (flattened (xs ++ ys)) ≡ without test false (flattened xs) ++ without test false (flattened ys)
without-append test [] ys = refl
without-append test (x ∷ xs) ys = elim (cases_Bool (test x.nid.bits)) [
  | inl t ↦ first-goes test x (xs ++ ys) t ∙ without-append test xs ys ∙ ap (λ (fs : List Flat). fs ++ without test false (flattened ys)) (sym (first-goes test x xs t))
  | inr f ↦ first-stays test x (xs ++ ys) f ∙ ap (λ (fs : List Flat). flattened (x ∷ []) ++ fs) (without-append test xs ys)
      ∙ sym (append_assoc (flattened (x ∷ [])) (without test false (flattened xs)) (without test false (flattened ys)))
      ∙ ap (λ (fs : List Flat). fs ++ without test false (flattened ys)) (sym (first-stays test x xs f))
]

-- tests that agree on ids below a number leave the same of such
pub without-below : (f g : ℕ → Bool) (low : ℕ) (gone : Bool) (fs : List Flat) → ids_below low fs ≡ true → ((n : ℕ) → n < low → f n ≡ g n) → without f gone fs ≡ without g gone fs
without-below f g low gone [] h same = refl
without-below f g low gone (x ∷ xs) h same = elim (cases_Bool (x.level == 0)) [
  | inl t ↦
      let p = and_parts (nat_lt x.nid low) (ids_below low xs) (rw t at h) in
      rw (t, same x.nid (ltb-true x.nid low p.0), without-below f g low true xs p.1 same, without-below f g low false xs p.1 same) refl
  | inr e ↦ rw (e, without-below f g low true xs (rw e at h) same, without-below f g low false xs (rw e at h) same) refl
]

-- where no id from a number on passes, all of such stay
pub without-none : (test : ℕ → Bool) (low : ℕ) (fs : List Flat) → ids_ascend low fs ≡ true → ((n : ℕ) → low ≤ n → test n ≡ false) → without test false fs ≡ fs
without-none test low [] h none = refl
without-none test low (f ∷ fs) h none = elim (cases_Bool (f.level == 0)) [
  | inl t ↦
      let p = and_parts (nat_le low f.nid) (ids_ascend (suc f.nid) fs) (rw t at h) in
      rw (t, none f.nid (leb-true low f.nid p.0)) (ap (λ (gs : List Flat). f ∷ gs) (without-none test (suc f.nid) fs p.1 (λ n le. none n (omega (arith, leb-true low f.nid p.0)))))
  | inr e ↦ rw e (ap (λ (gs : List Flat). f ∷ gs) (without-none test low fs (rw e at h) none))
]

-- where each passes, none of them stay
pub without-all : (test : ℕ → Bool) (low : ℕ) (subs : List Sub) → ids_ascend low (flattened subs) ≡ true → ((n : ℕ) → low ≤ n → test n ≡ true) → without test false (flattened subs) ≡ []
without-all test low [] h all = refl
without-all test low (s ∷ subs) h all =
    let p = and_parts (nat_le low s.nid.bits) (ids_ascend (suc s.nid.bits) (flattened subs)) (sym (ascend-first low s subs) ∙ h) in
    without-first test s subs ∙ rw (all s.nid.bits (leb-true low s.nid.bits p.0))
    (without-all test (suc s.nid.bits) subs p.1 (λ n le. all n (omega (arith, leb-true low s.nid.bits p.0))))

-- ---- data

pub data-append : (fs gs : List Flat) (nid : ℕ) (blocks : List (List ℕ)) → data_of fs nid ≡ Some blocks → data_of (fs ++ gs) nid ≡ Some blocks
data-append [] gs nid blocks h = absurd (cc h)
data-append (f ∷ fs) gs nid blocks h = elim (cases_Bool ((f.level == 0) && (f.nid == nid))) [
  | inl t ↦ rw t (rw t at h)
  | inr e ↦ rw e (data-append fs gs nid blocks (rw e at h))
]

pub data-above : (fs gs : List Flat) (low nid : ℕ) → ids_below low fs ≡ true → low ≤ nid → data_of (fs ++ gs) nid ≡ data_of gs nid
data-above [] gs low nid h le = refl
data-above (f ∷ fs) gs low nid h le = elim (cases_Bool (f.level == 0)) [
  | inl t ↦
      let p = and_parts (nat_lt f.nid low) (ids_below low fs) (rw t at h) in
      rw (t, ne_eqb f.nid nid (λ e. omega (arith, ltb-true f.nid low p.0))) (data-above fs gs low nid p.1 le)
  | inr e ↦ rw e (data-above fs gs low nid (rw e at h) le)
]

-- what went isn't found
pub data-without : (test : ℕ → Bool) (gone : Bool) (fs : List Flat) (nid : ℕ) → test nid ≡ true → data_of (without test gone fs) nid ≡ None
data-without test gone [] nid h = refl
data-without test gone (f ∷ fs) nid h = elim (cases_Bool (f.level == 0)) [
  | inl t ↦ rw t (elim (cases_Bool (test f.nid)) [
    | inl y ↦ rw y (data-without test true fs nid h)
    | inr n ↦ rw (n, t, ne_eqb f.nid nid (λ e. absurd (cc (ap test e)))) (data-without test false fs nid h)
  ])
  | inr e ↦ rw e (elim (cases_Bool gone) [
    | inl y ↦ rw y (data-without test true fs nid h)
    | inr n ↦ rw (n, e) (data-without test false fs nid h)
  ])
]

-- ---- one more

not-id : (long : List (ℕ × List ℕ)) (low n : ℕ) → ((m : ℕ) → is_id long m ≡ true → m < low) → low ≤ n → is_id long n ≡ false
not-id long low n ids le = elim (cases_Bool (is_id long n)) [ inl t ↦ absurd (omega (arith, ids n t)) | inr f ↦ f ]

-- the id that is free behind a subnode
next-free : (old new n : ℕ) → new ≡ (if n == old then old + 32 else old) → n ≤ old → old % 32 ≡ 31 → (suc n ≤ new) × (new % 32 ≡ 31) × (new ≤ old + 32)
next-free old new n is le kind = elim (cases_eq n old) [
  | inl e ↦ let f : new ≡ old + 32 = is ∙ rw (eq-eqb n old e) refl in (omega arith, omega arith, omega arith)
  | inr d ↦ let f : new ≡ old = is ∙ rw (ne_eqb n old d) refl in (omega (arith, other n old le d), omega arith, omega arith)
]
  where
    other : (n old : ℕ) → n ≤ old → (n ≡ old → ⊥) → suc n ≤ old
    other n old le d = elim (cases_lt n old) [ inl l ↦ omega arith | inr g ↦ absurd (d (omega arith)) ]

-- a subnode of the rest more
pub pass-placing : (old new : Placer) (s : Sub) (subs : List Sub) (long : List (ℕ × List ℕ)) (rest : List Flat) → Placing old long rest → old.left.items ≡ s ∷ subs → new.left.items ≡ subs
    → s.nid.bits ≤ old.free → new.placed.items ≡ old.placed.items ++ s ∷ [] → new.free ≡ (if s.nid.bits == old.free then old.free + 32 else old.free) → Placing new long rest
pass-placing old new s subs long rest h left left2 le placed free =
    let n = s.nid.bits in
    let after : ids_ascend h.low (flattened (s ∷ subs)) ≡ true = ap (λ (xs : List Sub). ids_ascend h.low (flattened xs)) (sym left) ∙ h.after in
    let p = and_parts (nat_le h.low s.nid.bits) (ids_ascend (suc s.nid.bits) (flattened subs)) (sym (ascend-first h.low s subs) ∙ after) in
    let low : h.low ≤ s.nid.bits = leb-true h.low s.nid.bits p.0 in
    let f = next-free old.free new.free s.nid.bits free le h.free_kind in
    let flat : flattened new.placed.items ≡ flattened old.placed.items ++ flattened (s ∷ []) = ap flattened placed ∙ flattened-append old.placed.items (s ∷ []) in
    let stays : is_id long s.nid.bits ≡ false = not-id long h.low s.nid.bits h.ids low in
    let W = without (is_id long) false (flattened old.placed.items) in
    let L = without (λ nid. not (is_id long nid)) false (flattened old.placed.items) in
    record {
      low = suc s.nid.bits;
      reach = f.0;
      ascend = ap (ids_ascend 0) flat ∙ ascend-append 0 h.low (flattened old.placed.items) (flattened (s ∷ [])) (omega arith) h.ascend h.below
          (ascend-first h.low s [] ∙ and_from (nat_le h.low s.nid.bits) true p.0 refl);
      below = ap (ids_below (suc s.nid.bits)) flat ∙ below-append (suc s.nid.bits) (flattened old.placed.items) (flattened (s ∷ [])) (below-higher h.low (suc s.nid.bits) (flattened old.placed.items) (omega arith) h.below)
          (below-first (suc s.nid.bits) s [] ∙ and_from (nat_lt s.nid.bits (suc s.nid.bits)) true (lt-ltb s.nid.bits (suc s.nid.bits) (omega arith)) refl);
      after = ap (λ (xs : List Sub). ids_ascend (suc s.nid.bits) (flattened xs)) left2 ∙ p.1;
      ids = λ m e. omega (arith, h.ids m e);
      kind = h.kind;
      free_kind = f.1;
      long_is = ap (λ (xs : List Sub). without (λ nid. not (is_id long nid)) false (flattened xs)) placed
          ∙ without-append (λ nid. not (is_id long nid)) old.placed.items (s ∷ [])
          ∙ ap (λ (fs : List Flat). without (λ nid. not (is_id long nid)) false (flattened old.placed.items) ++ fs) (first-goes (λ nid. not (is_id long nid)) s [] (ap not stays))
          ∙ append-nil (without (λ nid. not (is_id long nid)) false (flattened old.placed.items)) ∙ h.long_is;
      rest_is = ap (λ (xs : List Sub). without (is_id long) false (flattened xs) ++ flattened new.left.items) placed
          ∙ ap (λ (fs : List Flat). fs ++ flattened new.left.items) (without-append (is_id long) old.placed.items (s ∷ [])
          ∙ ap (λ (fs : List Flat). without (is_id long) false (flattened old.placed.items) ++ fs) (first-stays (is_id long) s [] stays ∙ append-nil (flattened (s ∷ []))))
          ∙ ap (λ (xs : List Sub). (without (is_id long) false (flattened old.placed.items) ++ flattened (s ∷ [])) ++ flattened xs) left2
          ∙ append_assoc (without (is_id long) false (flattened old.placed.items)) (flattened (s ∷ [])) (flattened subs)
          ∙ ap (λ (fs : List Flat). without (is_id long) false (flattened old.placed.items) ++ fs) (sym (flattened-append (s ∷ []) subs) ∙ ap flattened (sym left))
          ∙ h.rest_is;
    }

ahead-ascends : (low free : ℕ) (subs : List Sub) → ids_ascend low (flattened subs) ≡ true → IsAhead free subs → ids_ascend (suc free) (flattened subs) ≡ true
ahead-ascends low free [] h ahead = refl
ahead-ascends low free (s ∷ subs) h ahead =
    let p = and_parts (nat_le low s.nid.bits) (ids_ascend (suc s.nid.bits) (flattened subs)) (sym (ascend-first low s subs) ∙ h) in
    ascend-first (suc free) s subs ∙ and_from (nat_le (suc free) s.nid.bits) (ids_ascend (suc s.nid.bits) (flattened subs)) (le-leb (suc free) s.nid.bits (omega arith)) p.1

id-push : (long : List (ℕ × List ℕ)) (n m : ℕ) (b : List ℕ) → is_id (long ++ (n, b) ∷ []) m ≡ (is_id long m || (n == m))
id-push [] n m b = elim (cases_Bool (n == m)) [ inl t ↦ rw t refl | inr f ↦ rw f refl ]
id-push (l ∷ long) n m b = elim (cases_Bool (l.0 == m)) [ inl t ↦ rw t refl | inr f ↦ rw f (id-push long n m b) ]

or-false : (b : Bool) → (b || false) ≡ b
or-false true = refl
or-false false = refl

or-true : (b : Bool) → (b || true) ≡ true
or-true true = refl
or-true false = refl

id-other : (long : List (ℕ × List ℕ)) (n m : ℕ) (b : List ℕ) → (n ≡ m → ⊥) → is_id (long ++ (n, b) ∷ []) m ≡ is_id long m
id-other long n m b d = id-push long n m b ∙ ap (λ (x : Bool). is_id long m || x) (ne_eqb n m d) ∙ or-false (is_id long m)

id-here : (long : List (ℕ × List ℕ)) (n : ℕ) (b : List ℕ) → is_id (long ++ (n, b) ∷ []) n ≡ true
id-here long n b = id-push long n n b ∙ ap (λ (x : Bool). is_id long n || x) (eq-eqb n n refl) ∙ or-true (is_id long n)

kind-push : (long : List (ℕ × List ℕ)) (n : ℕ) (b : List ℕ) → are_long long ≡ true → n % 32 ≡ 31 → are_long (long ++ (n, b) ∷ []) ≡ true
kind-push [] n b h k = and_from (n % 32 == 31) true (eq-eqb (n % 32) 31 k) refl
kind-push (l ∷ long) n b h k = let p = and_parts (l.0 % 32 == 31) (are_long long) h in and_from (l.0 % 32 == 31) (are_long (long ++ (n, b) ∷ [])) p.0 (kind-push long n b p.1 k)

-- the new subnode in the flat list
new-flat : (s : Sub) (b : List ℕ) → s.blocks ≡ pieces b → s.subs ≡ [] → flattened (s ∷ []) ≡ subnode (s.nid.bits, b) ∷ []
new-flat s b blocks none =
    ap (λ (fs : List Flat). (record { level = 0; nid = s.nid.bits; blocks = s.blocks } ∷ map one_deeper fs) ++ []) none
    ∙ ap (λ (bs : List (List ℕ)). record { level = 0; nid = s.nid.bits; blocks = bs } ∷ []) blocks

-- a long value more
pub place-placing : (old new : Placer) (s : Sub) (b : List ℕ) (long : List (ℕ × List ℕ)) (rest : List Flat) → Placing old long rest → IsAhead old.free old.left.items → new.left.items ≡ old.left.items
    → s.nid.bits ≡ old.free → s.blocks ≡ pieces b → s.subs ≡ [] → new.placed.items ≡ old.placed.items ++ s ∷ [] → new.free ≡ old.free + 32 → Placing new (long ++ (s.nid.bits, b) ∷ []) rest
place-placing old new s b long rest h ahead left id blocks none placed free =
    let flat : flattened new.placed.items ≡ flattened old.placed.items ++ flattened (s ∷ []) = ap flattened placed ∙ flattened-append old.placed.items (s ∷ []) in
    let more = long ++ (s.nid.bits, b) ∷ [] in
    let low : h.low ≤ s.nid.bits = omega (arith, h.reach, id) in
    let same : (m : ℕ) → m < h.low → is_id (long ++ (s.nid.bits, b) ∷ []) m ≡ is_id long m = λ m lt. id-other long s.nid.bits m b (λ e. omega arith) in
    let here : is_id (long ++ (s.nid.bits, b) ∷ []) s.nid.bits ≡ true = id-here long s.nid.bits b in
    record {
      low = suc s.nid.bits;
      reach = omega (arith, id, free);
      ascend = ap (ids_ascend 0) flat ∙ ascend-append 0 h.low (flattened old.placed.items) (flattened (s ∷ [])) (omega arith) h.ascend h.below
          (ascend-first h.low s [] ∙ and_from (nat_le h.low s.nid.bits) true (le-leb h.low s.nid.bits low) refl);
      below = ap (ids_below (suc s.nid.bits)) flat ∙ below-append (suc s.nid.bits) (flattened old.placed.items) (flattened (s ∷ [])) (below-higher h.low (suc s.nid.bits) (flattened old.placed.items) (omega arith) h.below)
          (below-first (suc s.nid.bits) s [] ∙ and_from (nat_lt s.nid.bits (suc s.nid.bits)) true (lt-ltb s.nid.bits (suc s.nid.bits) (omega arith)) refl);
      after = ap (λ (xs : List Sub). ids_ascend (suc s.nid.bits) (flattened xs)) left
          ∙ ap (λ (n : ℕ). ids_ascend (suc n) (flattened old.left.items)) id ∙ ahead-ascends h.low old.free old.left.items h.after ahead;
      ids = λ m e. elim (cases_eq s.nid.bits m) [
        | inl q ↦ omega arith
        | inr d ↦ omega (arith, h.ids m (sym (id-other long s.nid.bits m b d) ∙ e))
      ];
      kind = kind-push long s.nid.bits b h.kind (omega (arith, h.free_kind, id));
      free_kind = omega (arith, h.free_kind, free);
      long_is = ap (λ (xs : List Sub). without (λ nid. not (is_id (long ++ (s.nid.bits, b) ∷ []) nid)) false (flattened xs)) placed
          ∙ without-append (λ nid. not (is_id (long ++ (s.nid.bits, b) ∷ []) nid)) old.placed.items (s ∷ [])
          ∙ ap (λ (fs : List Flat). fs ++ without (λ nid. not (is_id (long ++ (s.nid.bits, b) ∷ []) nid)) false (flattened (s ∷ [])))
          (without-below (λ nid. not (is_id (long ++ (s.nid.bits, b) ∷ []) nid)) (λ nid. not (is_id long nid)) h.low false (flattened old.placed.items) h.below (λ m lt. ap not (same m lt)) ∙ h.long_is)
          ∙ ap (λ (fs : List Flat). map subnode long ++ fs) (first-stays (λ nid. not (is_id (long ++ (s.nid.bits, b) ∷ []) nid)) s [] (ap not here) ∙ append-nil (flattened (s ∷ [])) ∙ new-flat s b blocks none)
          ∙ sym (map_push subnode long (s.nid.bits, b));
      rest_is = ap (λ (xs : List Sub). without (is_id (long ++ (s.nid.bits, b) ∷ [])) false (flattened xs) ++ flattened new.left.items) placed
          ∙ ap (λ (fs : List Flat). fs ++ flattened new.left.items) (without-append (is_id (long ++ (s.nid.bits, b) ∷ [])) old.placed.items (s ∷ [])
          ∙ ap (λ (fs : List Flat). without (is_id (long ++ (s.nid.bits, b) ∷ [])) false (flattened old.placed.items) ++ fs) (first-goes (is_id (long ++ (s.nid.bits, b) ∷ [])) s [] here)
          ∙ append-nil (without (is_id (long ++ (s.nid.bits, b) ∷ [])) false (flattened old.placed.items))
          ∙ without-below (is_id (long ++ (s.nid.bits, b) ∷ [])) (is_id long) h.low false (flattened old.placed.items) h.below same)
          ∙ ap (λ (xs : List Sub). without (is_id long) false (flattened old.placed.items) ++ flattened xs) left
          ∙ h.rest_is;
    }

-- the data of the new one is found, and so is that of the others
pub place-data : (old new : Placer) (s : Sub) (b : List ℕ) (long : List (ℕ × List ℕ)) (rest : List Flat) → Placing old long rest → s.nid.bits ≡ old.free → s.blocks ≡ pieces b → s.subs ≡ []
    → new.placed.items ≡ old.placed.items ++ s ∷ [] → placed_data new s.nid.bits ≡ Some (pieces b)
place-data old new s b long rest h id blocks none placed =
    ap (λ (xs : List Sub). data_of (flattened xs) s.nid.bits) placed
    ∙ ap (λ (fs : List Flat). data_of fs s.nid.bits) (flattened-append old.placed.items (s ∷ []))
    ∙ data-above (flattened old.placed.items) (flattened (s ∷ [])) h.low s.nid.bits h.below (omega (arith, h.reach, id))
    ∙ ap (λ (fs : List Flat). data_of fs s.nid.bits) (new-flat s b blocks none)
    ∙ rw (eq-eqb s.nid.bits s.nid.bits refl) refl

pub push-data : (old new : Placer) (more : List Sub) → new.placed.items ≡ old.placed.items ++ more → KeepsData (placed_data old) (placed_data new)
push-data old new more placed = λ nid bs h.
    ap (λ (xs : List Sub). data_of (flattened xs) nid) placed
    ∙ ap (λ (fs : List Flat). data_of fs nid) (flattened-append old.placed.items more)
    ∙ data-append (flattened old.placed.items) (flattened more) nid bs h

-- with what is left behind them, all is written
pub placed-all : (p : Placer) (long : List (ℕ × List ℕ)) (rest : List Flat) → Placing p long rest
    → (without (λ nid. not (is_id long nid)) false (flattened (p.placed.items ++ p.left.items)) ≡ map subnode long)
    × (without (is_id long) false (flattened (p.placed.items ++ p.left.items)) ≡ rest)
    × (ids_ascend 0 (flattened (p.placed.items ++ p.left.items)) ≡ true)
placed-all p long rest h = (
  without-append (λ nid. not (is_id long nid)) p.placed.items p.left.items
      ∙ ap (λ (fs : List Flat). without (λ nid. not (is_id long nid)) false (flattened p.placed.items) ++ fs)
      (without-all (λ nid. not (is_id long nid)) h.low p.left.items h.after (λ n le. ap not (not-id long h.low n h.ids le)))
      ∙ append-nil (without (λ nid. not (is_id long nid)) false (flattened p.placed.items)) ∙ h.long_is,
  without-append (is_id long) p.placed.items p.left.items
      ∙ ap (λ (fs : List Flat). without (is_id long) false (flattened p.placed.items) ++ fs)
      (without-none (is_id long) h.low (flattened p.left.items) h.after (λ n le. not-id long h.low n h.ids le)) ∙ h.rest_is,
  ap (ids_ascend 0) (flattened-append p.placed.items p.left.items)
      ∙ ascend-append 0 h.low (flattened p.placed.items) (flattened p.left.items) (omega arith) h.ascend h.below h.after,
)

pub free-most : (old new n : ℕ) → new ≡ (if n == old then old + 32 else old) → new ≤ old + 32
free-most old new n is = elim (cases_Bool (n == old)) [
  | inl t ↦ let f : new ≡ old + 32 = is ∙ rw t refl in omega arith
  | inr e ↦ let f : new ≡ old = is ∙ rw e refl in omega arith
]
