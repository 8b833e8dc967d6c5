-- Slots and what they say of nodes.
use Rattle.std.proofs.Common.{◌≡◌, ◌∙◌, inl, inr, ℕ, ◌<◌, Bool, true, false, cond, List, [], ◌∷◌, ◌++◌, refl, sym, ap, subst, arith, ⊎_elim, Option, None, Some, IsSome}
use Rattle.std.proofs.lemmas.Bool.{cases_eq, cases_lt}
use Rattle.std.specs.Ordering.{nat_cmp, eq_by_cmp}
use Rattle.std.specs.Cmp.{nat_cmp_total, eq_by_cmp_equiv}
use Rattle.std.specs.BTreeMap as tree
use Rattle.std.specs.FinMap as finite
use Rattle.pst_base.specs.declared.ids.Nid.{Nid}
use Rattle.node_port.specs.declared.node.NodeRec.{NodeRec}
use Rattle.node_port.specs.Nodes.{Nodes, get-set_at, node_at, set_at}
use Rattle.staged_nodes.specs.declared.slots.Slot.{Slot}
use Rattle.staged_nodes.specs.declared.slots.Slot.TheVariants.{Empty, Changed}
use Rattle.staged_nodes.specs.Staged.{Staged, over}
use Rattle.staged_nodes.proofs.OverLaws.{chosen}
use Rattle.staged_nodes.specs.Staging.{HasChanges, HasSlots, IsAbove, IsNextFull, IsNextSlot, IsPut, LiesOver, Passes, SameChanges, Slots, change_at, puts, said_by}

-- ---- going on from slot to slot

above_more : (after : Option ℕ) (nid q : ℕ) → IsAbove after nid → nid < q → IsAbove after q
above_more None nid q a h = tt
above_more (Some n) nid q a h = omega (arith, a, h)

not_there : (x : Option Slot) → x ≡ None → (node : NodeRec) → said_by x ≡ Some (Some node) → ⊥
not_there None e node is = cc
not_there (Some s) e node is = cc

not_put : (x : Option Slot) → puts x ≡ false → (node : NodeRec) → said_by x ≡ Some (Some node) → ⊥
not_put None e node is = cc
not_put (Some Empty) e node is = cc
not_put (Some (Changed None)) e node is = cc
not_put (Some (Changed (Some n))) e node is = cc

is_put : (x : Option Slot) → puts x ≡ true → (node : NodeRec) × (said_by x ≡ Some (Some node))
is_put None e = absurd (cc)
is_put (Some Empty) e = absurd (cc)
is_put (Some (Changed None)) e = absurd (cc)
is_put (Some (Changed (Some n))) e = (n, refl)

pub stays_put : (m : Slots) (from : Option ℕ) → Passes m from from
stays_put m from = ((λ q h. h), (λ q h. inr h))

pub passes_on : (m : Slots) (from to : Option ℕ) (nid : ℕ) → Passes m from to → IsNextSlot m to (Some (nid, false)) → Passes m from (Some nid)
passes_on m from to nid P n = (
  (λ q h. P.0 q (above_more to nid q n.0 h)),
  (λ q h. ⊎_elim (λ e. inl e)
      (λ a. ⊎_elim (λ below. inl (λ is. not_there _ (n.2 q a below) is.0 is.1))
      (λ ge. ⊎_elim (λ same. inl (subst (λ k. IsPut m k → ⊥) same (λ is. not_put _ n.1 is.0 is.1))) (λ apart. inr (omega (arith, ge, apart))) (cases_eq nid q))
      (cases_lt q nid))
      (P.1 q h)),
)

pub finds : (m : Slots) (from to : Option ℕ) (nid : ℕ) → Passes m from to → IsNextSlot m to (Some (nid, true)) → IsNextFull m from (Some nid)
finds m from to nid P n = (
  P.0 nid n.0,
  is_put _ n.1,
  (λ q h below is. ⊎_elim (λ e. e is) (λ a. not_there _ (n.2 q a below) is.0 is.1) (P.1 q h)),
)

pub ends : (m : Slots) (from to : Option ℕ) → Passes m from to → IsNextSlot m to None → IsNextFull m from None
ends m from to P n = λ q h is. ⊎_elim (λ e. e is) (λ a. not_there _ (n q a) is.0 is.1) (P.1 q h)

-- ---- making slots

pub slots_stay : (m n : Slots) (cs : List (Nid × Option NodeRec)) → SameChanges m n → HasSlots m cs → HasSlots n cs
slots_stay m n [] s h = tt
slots_stay m n (c ∷ cs) s h = ((s (c.0).bits).1 h.0, slots_stay m n cs s h.1)

pub one_slot_more : (m : Slots) (cs : List (Nid × Option NodeRec)) (c : Nid × Option NodeRec) → HasSlots m cs → IsSome (tree.get nat_cmp m (c.0).bits) → HasSlots m (cs ++ c ∷ [])
one_slot_more m [] c h is = (is, tt)
one_slot_more m (d ∷ cs) c h is = (h.0, one_slot_more m cs c h.1 is)

-- ---- filling slots

said_of_choice : (b : Bool) (w : Option NodeRec) (x : Option Slot) → cond b (Some w) (said_by x) ≡ said_by (cond b (Some (Changed w)) x)
said_of_choice true w x = refl
said_of_choice false w x = refl

some_by_choice : (b : Bool) (w : Option NodeRec) (x : Option Slot) → IsSome x → IsSome (cond b (Some (Changed w)) x)
some_by_choice true w x is = refl
some_by_choice false w x is = is

pub filled_slots : (m n : Slots) (k : ℕ) (w : Option NodeRec) (cs : List (Nid × Option NodeRec)) → tree.Updates nat_cmp m n k (Some (Changed w)) → HasSlots m cs → HasSlots n cs
filled_slots m n k w [] u h = tt
filled_slots m n k w (c ∷ cs) u h = (subst IsSome (sym (u.0 (c.0).bits)) (some_by_choice _ w _ h.0), filled_slots m n k w cs u h.1)

-- what the slots say after one change
said_after : (m n : Slots) (k : ℕ) (w : Option NodeRec) (q : ℕ) → tree.Updates nat_cmp m n k (Some (Changed w)) → cond (eq_by_cmp nat_cmp q k) (Some w) (change_at m q) ≡ change_at n q
said_after m n k w q u =
    ap (λ (b : Bool). cond b (Some w) (change_at m q)) ((eq_by_cmp_equiv nat_cmp_total).symm q k)
    ∙ said_of_choice (tree.is_at (nat_cmp k) q) w (tree.get nat_cmp m q)
    ∙ ap said_by (sym (u.0 q))

pub filled_changes : (m n : Slots) (k : ℕ) (w : Option NodeRec) (F : Staged) → tree.Updates nat_cmp m n k (Some (Changed w)) → HasChanges m F → HasChanges n (finite.insert F k w)
filled_changes m n k w F u has q =
    finite.get-insert nat_cmp_total F k w q
    ∙ ap (cond (eq_by_cmp nat_cmp q k) (Some w)) (has q)
    ∙ said_after m n k w q u

pub filled_over : (m n : Slots) (k : ℕ) (w : Option NodeRec) (N M : Nodes) → tree.Updates nat_cmp m n k (Some (Changed w)) → LiesOver N m M → LiesOver N n (set_at M k w)
filled_over m n k w N M u lies q =
    get-set_at M k w q
    ∙ chosen (eq_by_cmp nat_cmp q k) w (node_at M q) (node_at N q) (change_at m q) (lies q)
    ∙ ap (λ (x : Option (Option NodeRec)). over x (node_at N q)) (said_after m n k w q u)
