-- Subnodes of which one comes in place of another.
use Rattle.std.proofs.Common.{◌≡◌, ℕ, ◌+◌, ◌<◌, ◌==◌, suc, zero, Bool, true, false, Option, None, Some, List, [], ◌∷◌, ◌++◌, get_or, length, map, set, nat_le, arith, refl, sym, ap, ◌∙◌, inl, inr}
use Rattle.std.specs.List.{position_from}
use Rattle.std.proofs.lemmas.Bool.{and_from, and_parts, cases_Bool, eqb-true, le-leb, ne_eqb}
use Rattle.std.proofs.lemmas.List.{append-nil}
use Rattle.pst_base.specs.Flat.{Flat}
use Rattle.pst_base.specs.Subs.{flattened, one_deeper}
use Rattle.pst_base.specs.declared.subs.Sub.{Sub}
use Rattle.node_values.specs.Subnodes.{ids_ascend}
use Rattle.mail_tree.specs.Parts.{behind, with_subnode}

-- what stands below a subnode isn't directly in the list
is_below : (f : Flat) → ((one_deeper f).level == 0) ≡ false
is_below f = ne_eqb (f.level + 1) 0 (λ e. omega arith)

-- so it doesn't count for the order of ids
ascend_past : (low : ℕ) (fs gs : List Flat) → ids_ascend low (map one_deeper fs ++ gs) ≡ ids_ascend low gs
ascend_past low [] gs = refl
ascend_past low (f ∷ fs) gs = rw (is_below f) (ascend_past low fs gs)

ascend_behind : (low : ℕ) (fs : List Flat) → ids_ascend low (behind fs) ≡ ids_ascend low fs
ascend_behind low [] = refl
ascend_behind low (f ∷ fs) = elim (cases_Bool (f.level == 0)) [
  | inl top ↦ rw top (rw top refl)
  | inr below ↦ rw below (ascend_behind low fs)
]

-- and nothing of it is behind the subnode, or is another one directly in the list
behind_past : (fs : List Flat) (subs : List Sub) → behind (map one_deeper fs ++ flattened subs) ≡ flattened subs
behind_past [] [] = refl
behind_past [] (s ∷ subs) = refl
behind_past (f ∷ fs) subs = rw (is_below f) (behind_past fs subs)

with_past : (node : Sub) (fs gs : List Flat) → with_subnode node (map one_deeper fs ++ gs) ≡ map one_deeper fs ++ with_subnode node gs
with_past node [] gs = refl
with_past node (f ∷ fs) gs = rw (is_below f) (ap (λ (hs : List Flat). one_deeper f ∷ hs) (with_past node fs gs))

-- a subnode by itself
pub one_ascends : (node : Sub) → ids_ascend 0 (flattened (node ∷ [])) ≡ true
one_ascends node = and_from (nat_le 0 node.nid.bits) (ids_ascend (suc node.nid.bits) (map one_deeper node.subs ++ [])) (le-leb 0 node.nid.bits (omega arith)) (ascend_past (suc node.nid.bits) node.subs [])

-- subnodes ascend still where one comes in place of another of its id
pub with_ascends : (node : Sub) (low : ℕ) (fs : List Flat) → ids_ascend low fs ≡ true → ids_ascend low (with_subnode node fs) ≡ true
with_ascends node low [] ascend = refl
with_ascends node low (f ∷ fs) ascend = elim (cases_Bool (f.level == 0)) [
  | inl top ↦
      let parts = and_parts (nat_le low f.nid) (ids_ascend (suc f.nid) fs) (rw top at ascend) in
      elim (cases_Bool (f.nid == node.nid.bits)) [
        | inl same ↦
            let is = eqb-true f.nid node.nid.bits same in
            let rest : ids_ascend (suc node.nid.bits) ((map one_deeper node.subs ++ []) ++ behind fs) ≡ true =
            ap (λ (gs : List Flat). ids_ascend (suc node.nid.bits) (gs ++ behind fs)) (append-nil (map one_deeper node.subs))
            ∙ ascend_past (suc node.nid.bits) node.subs (behind fs) ∙ ascend_behind (suc node.nid.bits) fs ∙ ap (λ (n : ℕ). ids_ascend (suc n) fs) (sym is) ∙ parts.1 in
            rw (top, same) (and_from (nat_le low node.nid.bits) _ (ap (λ (n : ℕ). nat_le low n) (sym is) ∙ parts.0) rest)
        | inr other ↦ rw (top, other) (rw top (and_from (nat_le low f.nid) _ parts.0 (with_ascends node (suc f.nid) fs parts.1)))
      ]
  | inr below ↦ rw below (rw below (with_ascends node low fs (rw below at ascend)))
]

-- the subnode has this id
abbrev pub has_id : Sub → Sub → Bool
has_id node s = s.nid.bits == node.nid.bits

-- the first subnode of an id gives way to another
pub replaced : (node : Sub) (subs : List Sub) (i : ℕ) → i < length subs → has_id node (get_or subs i node) ≡ true → ((k : ℕ) → k < i → has_id node (get_or subs k node) ≡ false) → flattened (set subs i node) ≡ with_subnode node (flattened subs)
replaced node [] i less here before = absurd (omega (arith, less))
replaced node (s ∷ subs) zero less here before = rw (here, append-nil (map one_deeper node.subs), behind_past s.subs subs) refl
replaced node (s ∷ subs) (suc i) less here before =
    let other : has_id node s ≡ false = before 0 (omega arith) in
    rw (other, with_past node s.subs (flattened subs)) (ap (λ (gs : List Flat). record { level = 0; nid = s.nid.bits; blocks = s.blocks } ∷ map one_deeper s.subs ++ gs)
    (replaced node subs i (omega (arith, less)) here (λ k lt. before (suc k) (omega (arith, lt)))))

-- where none has the id they stay
pub none_replaced : (node : Sub) (subs : List Sub) (from : ℕ) → position_from (has_id node) from subs ≡ None → flattened subs ≡ with_subnode node (flattened subs)
none_replaced node [] from none = refl
none_replaced node (s ∷ subs) from none = elim (cases_Bool (has_id node s)) [
  | inl same ↦ absurd (some_none (rw same at none))
  | inr other ↦ rw (other, with_past node s.subs (flattened subs)) (ap (λ (gs : List Flat). record { level = 0; nid = s.nid.bits; blocks = s.blocks } ∷ map one_deeper s.subs ++ gs) (none_replaced node subs (from + 1) (rw other at none)))
]
  where
    some_none : {n : ℕ} → ◌≡◌ {A = Option ℕ} (Some n) None → ⊥
    some_none is = cc
