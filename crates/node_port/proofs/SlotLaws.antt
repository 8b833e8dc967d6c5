-- Slots and the nodes in them.
use Rattle.std.proofs.Common.{◌≡◌, ◌∙◌, inl, inr, ℕ, ◌<◌, Bool, true, false, cond, List, [], ◌∷◌, ◌++◌, refl, sym, ap, subst, arith, ⊎_elim, Option, None, Some, IsSome, is_some}
use Rattle.std.proofs.lemmas.Bool.{cases_eq, cases_lt}
use Rattle.std.specs.Ordering.{nat_cmp}
use Rattle.std.specs.Cmp.{nat_cmp_total, eq_by_cmp_equiv}
use Rattle.std.specs.BTreeMap as tree
use Rattle.pst_base.specs.declared.ids.Nid.{Nid}
use Rattle.node_port.specs.declared.node.NodeRec.{NodeRec}
use Rattle.node_port.specs.Nodes.{Nodes, node_at, set_at, get-set_at}
use Rattle.node_port.specs.Slots.{Slots, kept, Keeps, SameNodes, HasSlots, IsAbove, IsNextSlot, IsNextKept, Passes}

-- ---- going on from slot to slot

above_more : (after : Option ℕ) (nid q : ℕ) → IsAbove after nid → nid < q → IsAbove after q
above_more None nid q a h = tt
above_more (Some n) nid q a h = omega (arith, a, h)

none_there : (x : Option NodeRec) → is_some x ≡ false → x ≡ None
none_there None e = refl
none_there (Some n) e = grind (arith, e)

some_there : (x : Option NodeRec) → is_some x ≡ true → IsSome x
some_there None e = grind (arith, e)
some_there (Some n) e = refl

pub stays_put : (m : Slots) (from : Option ℕ) → Passes m from from
stays_put m from = ((λ q h. h), (λ q h. inr h))

pub passes_on : (m : Slots) (from to : Option ℕ) (nid : ℕ) → Passes m from to → IsNextSlot m to (Some (nid, false)) → Passes m from (Some nid)
passes_on m from to nid P n = (
  (λ q h. P.0 q (above_more to nid q n.0 h)),
  (λ q h. ⊎_elim (λ e. inl e)
      (λ a. ⊎_elim (λ below. inl (n.2 q a below))
      (λ ge. ⊎_elim (λ same. inl (subst (λ k. kept (tree.get nat_cmp m k) ≡ None) same (none_there _ n.1))) (λ apart. inr (omega (arith, ge, apart))) (cases_eq nid q))
      (cases_lt q nid))
      (P.1 q h)),
)

pub finds : (m : Slots) (from to : Option ℕ) (nid : ℕ) → Passes m from to → IsNextSlot m to (Some (nid, true)) → IsNextKept m from (Some nid)
finds m from to nid P n = (
  P.0 nid n.0,
  some_there _ n.1,
  (λ q h below. ⊎_elim (λ e. e) (λ a. n.2 q a below) (P.1 q h)),
)

pub ends : (m : Slots) (from to : Option ℕ) → Passes m from to → IsNextSlot m to None → IsNextKept m from None
ends m from to P n = λ q h. ⊎_elim (λ e. e) (λ a. n q a) (P.1 q h)

-- ---- making slots

pub slots_stay : (m n : Slots) (cs : List (Nid × Option NodeRec)) → SameNodes m n → HasSlots m cs → HasSlots n cs
slots_stay m n [] s h = tt
slots_stay m n (c ∷ cs) s h = ((s (c.0).bits).1 h.0, slots_stay m n cs s h.1)

pub one_slot_more : (m : Slots) (cs : List (Nid × Option NodeRec)) (c : Nid × Option NodeRec) → HasSlots m cs → IsSome (tree.get nat_cmp m (c.0).bits) → HasSlots m (cs ++ c ∷ [])
one_slot_more m [] c h is = (is, tt)
one_slot_more m (d ∷ cs) c h is = (h.0, one_slot_more m cs c h.1 is)

-- ---- filling slots

kept_of_choice : (b : Bool) (w : Option NodeRec) (x : Option (Option NodeRec)) → cond b w (kept x) ≡ kept (cond b (Some w) x)
kept_of_choice true w x = refl
kept_of_choice false w x = refl

some_by_choice : (b : Bool) (w : Option NodeRec) (x : Option (Option NodeRec)) → IsSome x → IsSome (cond b (Some w) x)
some_by_choice true w x is = refl
some_by_choice false w x is = is

pub filled_slots : (m n : Slots) (k : ℕ) (w : Option NodeRec) (cs : List (Nid × Option NodeRec)) → tree.Updates nat_cmp m n k (Some w) → HasSlots m cs → HasSlots n cs
filled_slots m n k w [] u h = tt
filled_slots m n k w (c ∷ cs) u h = (subst IsSome (sym (u.0 (c.0).bits)) (some_by_choice _ w _ h.0), filled_slots m n k w cs u h.1)

pub filled_nodes : (m n : Slots) (k : ℕ) (w : Option NodeRec) (N : Nodes) → tree.Updates nat_cmp m n k (Some w) → Keeps m N → Keeps n (set_at N k w)
filled_nodes m n k w N u keeps q =
    get-set_at N k w q
    ∙ ap (λ b. cond b w (node_at N q)) ((eq_by_cmp_equiv nat_cmp_total).symm q k)
    ∙ ap (cond (tree.is_at (nat_cmp k) q) w) (keeps q)
    ∙ kept_of_choice (tree.is_at (nat_cmp k) q) w (tree.get nat_cmp m q)
    ∙ ap kept (sym (u.0 q))
