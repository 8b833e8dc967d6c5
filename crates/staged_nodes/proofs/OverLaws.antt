-- Nodes with changes.
use Rattle.std.proofs.Common.{◌≡◌, ◌∙◌, ℕ, ◌+◌, ◌≤◌, Bool, true, false, cond, T, List, [], ◌∷◌, length, map, Option, None, Some, refl, sym, ap, subst, arith}
use Rattle.std.proofs.lemmas.Bool.{and_from, le-leb}
use Rattle.std.specs.Ordering.{nat_cmp, eq_by_cmp}
use Rattle.std.specs.Cmp.{nat_cmp_total}
use Rattle.std.specs.FinMap as finite
use Rattle.std.specs.FinMap.Entries.{below_all, find, is_sorted}
use Rattle.pst_base.specs.declared.ids.Nid.{Nid}
use Rattle.node_port.specs.Nodes.{Nodes, ascend, changed, get-set_at, node_at, set_at}
use Rattle.node_port.specs.declared.node.NodeRec.{NodeRec}
use Rattle.staged_nodes.specs.Staged.{IsOver, Staged, change_of, listed, none_staged, over, with_changes}
use Rattle.staged_nodes.proofs.SizeLaws.{find-below, first, lesser, second, tie}

-- a choice of what is now over what was before
pub chosen : (b : Bool) (v y n : Option NodeRec) (x : Option (Option NodeRec)) → y ≡ over x n → cond b v y ≡ over (cond b (Some v) x) n
chosen true v y n x e = refl
chosen false v y n x e = e

-- one change more
pub over-set : (N M : Nodes) (F : Staged) (k : ℕ) (v : Option NodeRec) → IsOver N F M → IsOver N (finite.insert F k v) (set_at M k v)
over-set N M F k v is q =
    get-set_at M k v q
    ∙ chosen (eq_by_cmp nat_cmp q k) v (node_at M q) (node_at N q) (finite.get F q) (is q)
    ∙ ap (λ (x : Option (Option NodeRec)). over x (node_at N q)) (sym (finite.get-insert nat_cmp_total F k v q))

pub over-with : (N M : Nodes) (F : Staged) (cs : List (Nid × Option NodeRec)) → IsOver N F M → IsOver N (with_changes F cs) (changed M cs)
over-with N M F [] is = is
over-with N M F (c ∷ cs) is = over-with N (set_at M (c.0).bits c.1) (finite.insert F (c.0).bits c.1) cs (over-set N M F (c.0).bits c.1 is)

joined : (b : Bool) (x : Option (Option NodeRec)) (v y : Option NodeRec) → (b ≡ true → x ≡ None) → over x (cond b v y) ≡ over (cond b (Some v) x) y
joined true x v y h = ap (λ (z : Option (Option NodeRec)). over z v) (h refl)
joined false x v y h = refl

over-list : (es : List (ℕ × Option NodeRec)) → T (is_sorted nat_cmp es) → (N : Nodes) (q : ℕ) → node_at (changed N (map change_of es)) q ≡ over (find nat_cmp q es) (node_at N q)
over-list [] h N q = refl
over-list (e ∷ es) h N q =
    over-list es (second _ _ h) (set_at N e.0 e.1) q
    ∙ ap (over (find nat_cmp q es)) (get-set_at N e.0 e.1 q)
    ∙ joined (eq_by_cmp nat_cmp q e.0) (find nat_cmp q es) e.1 (node_at N q)
    (λ same. find-below q es (subst (λ (k : ℕ). T (below_all nat_cmp k es)) (sym (tie q e.0 same)) (first _ _ h)))

pub over-entries : (N : Nodes) (F : Staged) → IsOver N F (changed N (listed F))
over-entries N F q = over-list (finite.entries F) (finite.entries_sorted F) N q ∙ ap (λ (x : Option (Option NodeRec)). over x (node_at N q)) (sym (finite.get-entries F q))

-- ---- changes in order

abbrev Begins : ℕ → List (ℕ × Option NodeRec) → Type 0
Begins low [] = Unit {0}
Begins low (e ∷ es) = low ≤ e.0

begins : (k : ℕ) (es : List (ℕ × Option NodeRec)) → T (below_all nat_cmp k es) → Begins (k + 1) es
begins k [] h = tt
begins k (e ∷ es) h = let lt = lesser k e.0 (first _ _ h) in omega (arith, lt)

ascends : (low : ℕ) (es : List (ℕ × Option NodeRec)) → T (is_sorted nat_cmp es) → Begins low es → ascend low (map change_of es) ≡ true
ascends low [] h b = refl
ascends low (e ∷ es) h b = and_from _ _ (le-leb low e.0 b) (ascends (e.0 + 1) es (second _ _ h) (begins e.0 es (first _ _ h)))

from-zero : (es : List (ℕ × Option NodeRec)) → Begins 0 es
from-zero [] = tt
from-zero (e ∷ es) = omega arith

pub ascend-sorted : (es : List (ℕ × Option NodeRec)) → T (is_sorted nat_cmp es) → ascend 0 (map change_of es) ≡ true
ascend-sorted es h = ascends 0 es h (from-zero es)

pub ascend-entries : (F : Staged) → ascend 0 (listed F) ≡ true
ascend-entries F = ascend-sorted (finite.entries F) (finite.entries_sorted F)

-- ---- none

no-length : (es : List (ℕ × Option NodeRec)) → length es ≡ 0 → es ≡ []
no-length [] e = refl
no-length (x ∷ es) e = absurd (omega arith)

pub no-entries : finite.entries none_staged ≡ []
no-entries = no-length (finite.entries none_staged) (sym (finite.len-entries none_staged) ∙ finite.len-empty nat_cmp (Option NodeRec))

-- ---- one node

pub said : (x : Option (Option NodeRec)) (n m y : Option NodeRec) → m ≡ over x n → Some y ≡ x → y ≡ m
said x n m y lies e = sym (lies ∙ ap (λ (z : Option (Option NodeRec)). over z n) (sym e))
