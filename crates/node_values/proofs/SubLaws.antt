-- What stands directly in a flat list of subnodes.
use Rattle.std.proofs.Common.{◌≡◌, ℕ, suc, ◌+◌, ◌-◌, ◌<◌, ◌≤◌, ◌==◌, ◌&&◌, Bool, true, false, List, [], ◌∷◌, ◌++◌, length, map, drop, get_or, Some, None, refl, sym, ap, ◌∙◌, inl, inr, if◌then◌else◌, append_assoc, arith}
use Rattle.std.proofs.lemmas.Bool.{and_from, and_parts, cases_Bool, le-leb, leb-true, ne_eqb}
use Rattle.std.specs.Prelude.{nat_le}
use Rattle.std.specs.Option.{option_map}
use Rattle.std.proofs.lemmas.List.{append-nil, drop_more}
use Rattle.pst_base.specs.Flat.{Flat}
use Rattle.pst_base.specs.Subs.{flattened, one_deeper}
use Rattle.pst_base.specs.declared.subs.Sub.{Sub}
use Rattle.node_values.specs.Subnodes.{below, contents, data_of, ids_ascend, one_up, place_from, subnode, without}

none-some : {B : Type 0} (y : B) → None ≡ Some y → ⊥
none-some y e = cc

some-injective : {B : Type 0} (x y : B) → Some x ≡ Some y → x ≡ y
some-injective x y e = cc

pub flattened-append : (xs ys : List Sub) → flattened (xs ++ ys) ≡ flattened xs ++ flattened ys
flattened-append [] ys = refl
flattened-append (x ∷ xs) ys =
    let first : List Flat = record { level = 0; nid = x.nid.bits; blocks = x.blocks } ∷ map one_deeper x.subs in
    ap (λ (fs : List Flat). first ++ fs) (flattened-append xs ys) ∙ sym (append_assoc first (flattened xs) (flattened ys))

pub data-deeper : (nid : ℕ) (fs gs : List Flat) → data_of (map one_deeper fs ++ gs) nid ≡ data_of gs nid
data-deeper nid [] gs = refl
data-deeper nid (f ∷ fs) gs = rw (ne_eqb (f.level + 1) 0 (λ e. omega arith)) (data-deeper nid fs gs)

pub data-first : (nid : ℕ) (s : Sub) (subs : List Sub) → data_of (flattened (s ∷ subs)) nid ≡ (if s.nid.bits == nid then Some s.blocks else data_of (flattened subs) nid)
data-first nid s subs = elim (cases_Bool (s.nid.bits == nid)) [ inl t ↦ rw t refl | inr f ↦ rw f (data-deeper nid s.subs (flattened subs)) ]

-- ---- a subnode and what stands below it

deeper : (n : ℕ) → (n + 1 == 0) ≡ false
deeper n = ne_eqb (n + 1) 0 (λ e. absurd (omega arith))

up-deeper : (f : Flat) → one_up (one_deeper f) ≡ f
up-deeper f = let n : (f.level + 1) - 1 ≡ f.level = omega arith in ap (λ (l : ℕ). let g : Flat = record { level = l; nid = f.nid; blocks = f.blocks } in g) n

-- what stands below comes up again
below-deeper : (fs gs : List Flat) → below (map one_deeper fs ++ gs) ≡ fs ++ below gs
below-deeper [] gs = refl
below-deeper (f ∷ fs) gs = rw (deeper f.level) (ap (λ (g : Flat). g ∷ below (map one_deeper fs ++ gs)) (up-deeper f) ∙ ap (λ (hs : List Flat). f ∷ hs) (below-deeper fs gs))

below-none : (subs : List Sub) → below (flattened subs) ≡ []
below-none [] = refl
below-none (s ∷ subs) = refl

pub below-first : (s : Sub) (subs : List Sub) → below (map one_deeper s.subs ++ flattened subs) ≡ s.subs
below-first s subs = below-deeper s.subs (flattened subs) ∙ ap (λ (fs : List Flat). s.subs ++ fs) (below-none subs) ∙ append-nil s.subs

subnode-deeper : (fs gs : List Flat) (nid : ℕ) → subnode (map one_deeper fs ++ gs) nid ≡ subnode gs nid
subnode-deeper [] gs nid = refl
subnode-deeper (f ∷ fs) gs nid = rw (deeper f.level) (subnode-deeper fs gs nid)

pub subnode-first : (nid : ℕ) (s : Sub) (subs : List Sub) → subnode (flattened (s ∷ subs)) nid ≡ (if s.nid.bits == nid then Some (contents s) else subnode (flattened subs) nid)
subnode-first nid s subs = elim (cases_Bool (s.nid.bits == nid)) [
  | inl t ↦ rw t (ap (λ (fs : List Flat). Some (s.blocks, fs)) (below-first s subs))
  | inr f ↦ rw f (subnode-deeper s.subs (flattened subs) nid)
]

-- a subnode's data are its blocks
pub data-subnode : (fs : List Flat) (nid : ℕ) → data_of fs nid ≡ option_map (λ (c : List (List ℕ) × List Flat). c.0) (subnode fs nid)
data-subnode [] nid = refl
data-subnode (f ∷ fs) nid = elim (cases_Bool ((f.level == 0) && (f.nid == nid))) [ inl t ↦ rw t refl | inr e ↦ rw e (data-subnode fs nid) ]

-- ---- where subnodes stand

-- a subnode with the id stands at i, counted from a number on, and none before it
pub record IsAt (nid from : ℕ) (subs : List Sub) (i : ℕ) : Type 0 where
  pub low : from ≤ i
  pub high : i < from + length subs
  pub here : (d : Sub) → subnode (flattened subs) nid ≡ Some (contents (get_or subs (i - from) d))

pub place-some : (nid from i : ℕ) (subs : List Sub) → place_from nid from subs ≡ Some i → IsAt nid from subs i
place-some nid from i [] h = absurd (none-some i h)
place-some nid from i (s ∷ subs) h = elim (cases_Bool (s.nid.bits == nid)) [
  | inl t ↦
      let e : from ≡ i = some-injective from i (rw t at h) in
      let z : i - from ≡ 0 = omega (arith, e) in
      record { low = omega (arith, e); high = omega (arith, e); here = λ d. rw z (subnode-first nid s subs ∙ rw t refl) }
  | inr f ↦
      let r = place-some nid (suc from) i subs (rw f at h) in
      let next : i - from ≡ suc (i - suc from) = omega (arith, r.low) in
      record { low = omega (arith, r.low); high = omega (arith, r.high); here = λ d. rw next (subnode-first nid s subs ∙ rw f (r.here d)) }
]

pub place-none : (nid from : ℕ) (subs : List Sub) → place_from nid from subs ≡ None → subnode (flattened subs) nid ≡ None
place-none nid from [] h = refl
place-none nid from (s ∷ subs) h = elim (cases_Bool (s.nid.bits == nid)) [
  | inl t ↦ absurd (none-some from (sym (rw t at h)))
  | inr f ↦ subnode-first nid s subs ∙ rw f (place-none nid (suc from) subs (rw f at h))
]

without-gone : (test : ℕ → Bool) (fs gs : List Flat) → without test true (map one_deeper fs ++ gs) ≡ without test true gs
without-gone test [] gs = refl
without-gone test (f ∷ fs) gs = rw (ne_eqb (f.level + 1) 0 (λ e. omega arith)) (without-gone test fs gs)

without-kept : (test : ℕ → Bool) (fs gs : List Flat) → without test false (map one_deeper fs ++ gs) ≡ map one_deeper fs ++ without test false gs
without-kept test [] gs = refl
without-kept test (f ∷ fs) gs = rw (ne_eqb (f.level + 1) 0 (λ e. omega arith)) (ap (λ (hs : List Flat). one_deeper f ∷ hs) (without-kept test fs gs))

without-start : (test : ℕ → Bool) (subs : List Sub) → without test true (flattened subs) ≡ without test false (flattened subs)
without-start test [] = refl
without-start test (s ∷ subs) = refl

-- the first subnode, with what stands below it, goes or stays
pub without-first : (test : ℕ → Bool) (s : Sub) (subs : List Sub)
    → without test false (flattened (s ∷ subs)) ≡ (if test s.nid.bits then without test false (flattened subs) else flattened (s ∷ []) ++ without test false (flattened subs))
without-first test s subs = elim (cases_Bool (test s.nid.bits)) [
  | inl t ↦ rw t (without-gone test s.subs (flattened subs) ∙ without-start test subs)
  | inr f ↦ rw f (ap (λ (fs : List Flat). record { level = 0; nid = s.nid.bits; blocks = s.blocks } ∷ fs)
      (without-kept test s.subs (flattened subs) ∙ ap (λ (fs : List Flat). fs ++ without test false (flattened subs)) (sym (append-nil (map one_deeper s.subs)))))
]

-- one subnode more that goes
pub without-goes : (test : ℕ → Bool) (i : ℕ) (subs : List Sub) (s d : Sub) → i < length subs → s ≡ get_or subs i d → test s.nid.bits ≡ true
    → without test false (flattened (drop (i + 1) subs)) ≡ without test false (flattened (drop i subs))
without-goes test i subs s d h is t =
    sym (ap (λ (ss : List Sub). without test false (flattened ss)) (drop_more subs i d h ∙ ap (λ (x : Sub). x ∷ drop (i + 1) subs) (sym is))
    ∙ without-first test s (drop (i + 1) subs) ∙ rw t refl)

-- one subnode more that stays
pub without-stays : (test : ℕ → Bool) (i : ℕ) (subs out : List Sub) (s d : Sub) → i < length subs → s ≡ get_or subs i d → test s.nid.bits ≡ false
    → flattened (out ++ s ∷ []) ++ without test false (flattened (drop (i + 1) subs)) ≡ flattened out ++ without test false (flattened (drop i subs))
without-stays test i subs out s d h is f =
    ap (λ (fs : List Flat). fs ++ without test false (flattened (drop (i + 1) subs))) (flattened-append out (s ∷ []))
    ∙ append_assoc (flattened out) (flattened (s ∷ [])) (without test false (flattened (drop (i + 1) subs)))
    ∙ ap (λ (fs : List Flat). flattened out ++ fs)
    (sym (ap (λ (ss : List Sub). without test false (flattened ss)) (drop_more subs i d h ∙ ap (λ (x : Sub). x ∷ drop (i + 1) subs) (sym is))
    ∙ without-first test s (drop (i + 1) subs) ∙ rw f refl))

-- the same test leaves the same
pub without-same : (f g : ℕ → Bool) (gone : Bool) (fs : List Flat) → ((n : ℕ) → f n ≡ g n) → without f gone fs ≡ without g gone fs
without-same f g gone [] same = refl
without-same f g gone (x ∷ xs) same = rw (same x.nid, without-same f g true xs same, without-same f g false xs same) refl

ascend-lower : (low high : ℕ) (fs : List Flat) → low ≤ high → ids_ascend high fs ≡ true → ids_ascend low fs ≡ true
ascend-lower low high [] le h = refl
ascend-lower low high (f ∷ fs) le h = elim (cases_Bool (f.level == 0)) [
  | inl t ↦
      let p = and_parts (nat_le high f.nid) (ids_ascend (suc f.nid) fs) (rw t at h) in
      rw t (and_from (nat_le low f.nid) (ids_ascend (suc f.nid) fs) (le-leb low f.nid (omega (arith, leb-true high f.nid p.0))) p.1)
  | inr e ↦ rw e (ascend-lower low high fs le (rw e at h))
]

-- what is left of ids that ascend ascends
pub without-ascends : (test : ℕ → Bool) (gone : Bool) (low : ℕ) (fs : List Flat) → ids_ascend low fs ≡ true → ids_ascend low (without test gone fs) ≡ true
without-ascends test gone low [] h = refl
without-ascends test gone low (f ∷ fs) h = elim (cases_Bool (f.level == 0)) [
  | inl t ↦
      let p = and_parts (nat_le low f.nid) (ids_ascend (suc f.nid) fs) (rw t at h) in
      rw t (elim (cases_Bool (test f.nid)) [
        | inl y ↦ rw y (ascend-lower low (suc f.nid) (without test true fs) (omega (arith, leb-true low f.nid p.0)) (without-ascends test true (suc f.nid) fs p.1))
        | inr n ↦ rw (n, t) (and_from (nat_le low f.nid) (ids_ascend (suc f.nid) (without test false fs)) p.0 (without-ascends test false (suc f.nid) fs p.1))
      ])
  | inr e ↦ rw e (elim (cases_Bool gone) [
    | inl y ↦ rw y (without-ascends test true low fs (rw e at h))
    | inr n ↦ rw (n, e) (without-ascends test false low fs (rw e at h))
  ])
]

-- ---- ids in order

ascend-deeper : (low : ℕ) (fs gs : List Flat) → ids_ascend low (map one_deeper fs ++ gs) ≡ ids_ascend low gs
ascend-deeper low [] gs = refl
ascend-deeper low (f ∷ fs) gs = rw (ne_eqb (f.level + 1) 0 (λ e. omega arith)) (ascend-deeper low fs gs)

-- the ids of a list that begins with a subnode
pub ascend-first : (low : ℕ) (s : Sub) (subs : List Sub) → ids_ascend low (flattened (s ∷ subs)) ≡ (nat_le low s.nid.bits && ids_ascend (suc s.nid.bits) (flattened subs))
ascend-first low s subs = ap (λ (b : Bool). nat_le low s.nid.bits && b) (ascend-deeper (suc s.nid.bits) s.subs (flattened subs))

-- past one more subnode, whose id isn't below the least
pub ascend-next : (low i n : ℕ) (subs : List Sub) (s : Sub) → i < length subs → s ≡ get_or subs i s → n ≡ s.nid.bits → low ≤ n
    → ids_ascend (n + 1) (flattened (drop (i + 1) subs)) ≡ ids_ascend low (flattened (drop i subs))
ascend-next low i n subs s h is id le =
    let next : n + 1 ≡ suc s.nid.bits = omega arith in
    ap (λ (m : ℕ). ids_ascend m (flattened (drop (i + 1) subs))) next
    ∙ ap (λ (b : Bool). b && ids_ascend (suc s.nid.bits) (flattened (drop (i + 1) subs))) (sym (le-leb low s.nid.bits (omega arith)))
    ∙ sym (ap (λ (xs : List Sub). ids_ascend low (flattened xs)) (drop_more subs i s h ∙ ap (λ (x : Sub). x ∷ drop (i + 1) subs) (sym is)) ∙ ascend-first low s (drop (i + 1) subs))
