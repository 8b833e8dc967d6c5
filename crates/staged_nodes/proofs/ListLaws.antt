-- The changes that slots have, as a list.
use Rattle.std.proofs.Common.{◌≡◌, ◌∙◌, ℕ, Bool, true, false, cond, T, List, [], ◌∷◌, ◌++◌, map, Option, None, Some, refl, sym, ap, subst}
use Rattle.std.proofs.lemmas.List.{append-nil}
use Rattle.std.proofs.lemmas.Map.Keys.{sorted_head, sorted_tail}
use Rattle.std.specs.Ordering.{nat_cmp, is_lt, eq_by_cmp}
use Rattle.std.specs.declared.cmp.Ordering.TheVariants.{Less}
use Rattle.std.specs.Cmp.{nat_cmp_total}
use Rattle.std.specs.List.{AllByRecursion}
use Rattle.std.specs.List.Sorted.{IsStrictlySortedBy}
use Rattle.std.specs.Map.{keys_of, lookup}
use Rattle.std.specs.BTreeMap as tree
use Rattle.std.specs.FinMap as finite
use Rattle.std.specs.FinMap.Entries.{below_all, find, is_sorted, same_entries}
use Rattle.pst_base.specs.declared.ids.Nid.{Nid}
use Rattle.node_port.specs.declared.node.NodeRec.{NodeRec}
use Rattle.staged_nodes.specs.declared.slots.Slot.{Slot}
use Rattle.staged_nodes.specs.declared.slots.Slot.TheVariants.{Empty, Changed}
use Rattle.staged_nodes.specs.Staged.{Staged, change_of, listed}
use Rattle.staged_nodes.specs.Staging.{HasChanges, Slots, kept_slots, said_by}
use Rattle.staged_nodes.proofs.SizeLaws.{both, find-below, tie}
use Rattle.staged_nodes.proofs.OverLaws.{ascend-sorted}
use Rattle.node_port.specs.Nodes.{ascend}

-- keys that are above one
abbrev Above : ℕ → List (ℕ × Slot) → Type 0
Above k es = AllByRecursion (λ y. nat_cmp k y ≡ Less) (keys_of es)

below-kept : (k : ℕ) (es : List (ℕ × Slot)) → Above k es → T (below_all nat_cmp k (kept_slots es))
below-kept k [] h = tt
below-kept k ((q, Empty) ∷ es) h = below-kept k es h.1
below-kept k ((q, Changed x) ∷ es) h = both _ _ (subst (λ r. T (is_lt r)) (sym h.0) tt) (below-kept k es h.1)

sorted-kept : (es : List (ℕ × Slot)) → IsStrictlySortedBy nat_cmp (keys_of es) → T (is_sorted nat_cmp (kept_slots es))
sorted-kept [] h = tt
sorted-kept ((q, Empty) ∷ es) h = sorted-kept es (sorted_tail nat_cmp q (keys_of es) h)
sorted-kept ((q, Changed x) ∷ es) h = both _ _ (below-kept q es (sorted_head nat_cmp q (keys_of es) h)) (sorted-kept es (sorted_tail nat_cmp q (keys_of es) h))

empty-here : (b : Bool) (x : Option (Option NodeRec)) (y : Option Slot) → (b ≡ true → x ≡ None) → x ≡ said_by y → x ≡ said_by (cond b (Some Empty) y)
empty-here true x y h e = h refl
empty-here false x y h e = e

changed-here : (b : Bool) (w : Option NodeRec) (x : Option (Option NodeRec)) (y : Option Slot) → x ≡ said_by y → cond b (Some w) x ≡ said_by (cond b (Some (Changed w)) y)
changed-here true w x y e = refl
changed-here false w x y e = e

find-kept : (q : ℕ) (es : List (ℕ × Slot)) → IsStrictlySortedBy nat_cmp (keys_of es) → find nat_cmp q (kept_slots es) ≡ said_by (lookup (tree.is_at (nat_cmp q)) es)
find-kept q [] h = refl
find-kept q ((k, Empty) ∷ es) h =
    empty-here (eq_by_cmp nat_cmp q k) (find nat_cmp q (kept_slots es)) (lookup (tree.is_at (nat_cmp q)) es)
    (λ same. find-below q (kept_slots es) (subst (λ (j : ℕ). T (below_all nat_cmp j (kept_slots es))) (sym (tie q k same)) (below-kept k es (sorted_head nat_cmp k (keys_of es) h))))
    (find-kept q es (sorted_tail nat_cmp k (keys_of es) h))
find-kept q ((k, Changed x) ∷ es) h =
    changed-here (eq_by_cmp nat_cmp q k) x (find nat_cmp q (kept_slots es)) (lookup (tree.is_at (nat_cmp q)) es) (find-kept q es (sorted_tail nat_cmp k (keys_of es) h))

pub slots_listed : (m : Slots) (F : Staged) → tree.IsOrdered nat_cmp m → HasChanges m F → map change_of (kept_slots m.entries) ≡ listed F
slots_listed m F order has =
    ap (map change_of)
    (same_entries nat_cmp nat_cmp_total finite.nat_cmp-IsAntisymmetric (kept_slots m.entries) (finite.entries F) (sorted-kept m.entries order) (finite.entries_sorted F)
    (λ q. find-kept q m.entries order ∙ sym (has q) ∙ finite.get-entries F q))

-- by ascending ids
pub slots_ascend : (m : Slots) → tree.IsOrdered nat_cmp m → ascend 0 (map change_of (kept_slots m.entries)) ≡ true
slots_ascend m order = ascend-sorted (kept_slots m.entries) (sorted-kept m.entries order)

-- all slots are listed
pub all-kept : (all done : List (Nid × Option NodeRec)) (rest : List (ℕ × Slot)) → all ≡ done ++ map change_of (kept_slots rest) → rest ≡ [] → done ≡ all
all-kept all done rest e none = sym (e ∙ ap (λ (es : List (ℕ × Slot)). done ++ map change_of (kept_slots es)) none ∙ append-nil done)
