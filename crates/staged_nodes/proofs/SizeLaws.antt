-- How much changes put.
use Rattle.std.proofs.Common.{leb, ◌≡◌, ◌∙◌, ℕ, ◌+◌, ◌-◌, ◌^◌, min, ◌<◌, ◌≤◌, Bool, true, false, cond, T, ◌&&◌, List, [], ◌∷◌, map, Option, None, Some, refl, sym, ap, subst, arith, ⊎_elim}
use Rattle.std.proofs.lemmas.Bool.{and_parts, leb-true, cases_Bool}
use Rattle.std.specs.Ordering.{nat_cmp, is_eq, is_lt, eq_by_cmp, MatchOrdering}
use Rattle.std.specs.declared.cmp.Ordering.{Ordering}
use Rattle.std.specs.declared.cmp.Ordering.TheVariants.{Less, Equal, Greater}
use Rattle.std.specs.Cmp.{nat_cmp_total, ranks}
use Rattle.std.specs.FinMap as finite
use Rattle.std.specs.FinMap.Entries.{below_all, by_order, find, is_sorted, put}
use Rattle.pst_base.specs.declared.ids.Nid.{Nid}
use Rattle.node_port.specs.Nodes.{ascend}
use Rattle.node_port.specs.Stops.{size}
use Rattle.node_port.specs.declared.node.NodeRec.{NodeRec}
use Rattle.staged_nodes.specs.Sizes.{one_changed, one_node, replaced}
use Rattle.staged_nodes.specs.Staged.{Staged, change_of, staged_size, with_changes}

-- ---- keys

pub both : (a b : Bool) → T a → T b → T (a && b)
both true b p q = q
both false b p q = p

pub first : (a b : Bool) → T (a && b) → T a
first true b p = tt
first false b p = p

pub second : (a b : Bool) → T (a && b) → T b
second true b p = p
second false b p = absurd p

pub less : (r : Ordering) → T (is_lt r) → r ≡ Less
less Less p = refl
less Equal p = absurd p
less Greater p = absurd p

tie-by : (r : Ordering) (q k : ℕ) → MatchOrdering r (q < k) (q ≡ k) (k < q) → is_eq r ≡ true → q ≡ k
tie-by Less q k m e = grind (arith, e)
tie-by Equal q k m e = m
tie-by Greater q k m e = grind (arith, e)

pub tie : (q k : ℕ) → eq_by_cmp nat_cmp q k ≡ true → q ≡ k
tie q k e = tie-by (nat_cmp q k) q k (ranks q k) e

pub apart : (q k : ℕ) → k < q → eq_by_cmp nat_cmp q k ≡ false
apart q k h = ⊎_elim (λ (e : eq_by_cmp nat_cmp q k ≡ true). let same = tie q k e in absurd (omega (arith, h, same))) (λ e. e) (cases_Bool (eq_by_cmp nat_cmp q k))

less-by : (r : Ordering) (q k : ℕ) → MatchOrdering r (q < k) (q ≡ k) (k < q) → T (is_lt r) → q < k
less-by Less q k m e = m
less-by Equal q k m e = absurd e
less-by Greater q k m e = absurd e

pub lesser : (q k : ℕ) → T (is_lt (nat_cmp q k)) → q < k
lesser q k e = less-by (nat_cmp q k) q k (ranks q k) e

missed : {X : Type 0} (r : Ordering) (v : X) (x : Option X) → T (is_lt r) → x ≡ None → cond (is_eq r) (Some v) x ≡ None
missed Less v x h e = e
missed Equal v x h e = absurd h
missed Greater v x h e = absurd h

pub find-below : {X : Type 0} (q : ℕ) (es : List (ℕ × X)) → T (below_all nat_cmp q es) → find nat_cmp q es ≡ None
find-below q [] h = refl
find-below q (e ∷ es) h = missed (nat_cmp q e.0) e.1 (find nat_cmp q es) (first _ _ h) (find-below q es (second _ _ h))

below-less : {X : Type 0} (x y : ℕ) (es : List (ℕ × X)) → nat_cmp x y ≡ Less → T (below_all nat_cmp y es) → T (below_all nat_cmp x es)
below-less x y [] p h = tt
below-less x y (e ∷ es) p h = both _ _ (subst (λ r. T (is_lt r)) (sym (nat_cmp_total.trans x y e.0 p (less _ (first _ _ h)))) tt) (below-less x y es p (second _ _ h))

-- ---- one change

pub size-one : (c : Nid × Option NodeRec) (cs : List (Nid × Option NodeRec)) → size (c ∷ cs) ≡ one_node c.1 + size cs
size-one (nid, None) cs = omega arith
size-one (nid, Some node) cs = omega arith

abbrev pub sized : List (ℕ × Option NodeRec) → ℕ
sized es = size (map change_of es)

sized-one : (e : ℕ × Option NodeRec) (es : List (ℕ × Option NodeRec)) → sized (e ∷ es) ≡ one_node e.1 + sized es
sized-one e es = size-one (change_of e) (map change_of es)

none-below : (k x : ℕ) (es : List (ℕ × Option NodeRec)) → nat_cmp k x ≡ Less → T (below_all nat_cmp x es) → one_changed (find nat_cmp k es) ≡ 0
none-below k x es p h = ap one_changed (find-below k es (below-less k x es p h))

sized-put : (k : ℕ) (v : Option NodeRec) (es : List (ℕ × Option NodeRec)) → T (is_sorted nat_cmp es) → sized (put nat_cmp k v es) + one_changed (find nat_cmp k es) ≡ sized es + one_node v
sized-put k v [] h = let a = sized-one (k, v) [] in omega (arith, a)
sized-put k v (e ∷ es) h =
    let old : sized (e ∷ es) ≡ one_node e.1 + sized es = sized-one e es in
    elim (nat_cmp k e.0) as (λ r. nat_cmp k e.0 ≡ r → sized (by_order r ((k, v) ∷ e ∷ es) ((e.0, v) ∷ es) (e ∷ put nat_cmp k v es)) + one_changed (cond (is_eq r) (Some e.1) (find nat_cmp k es)) ≡ sized (e ∷ es) + one_node v) [
      | Less ↦ λ p.
          let a : sized ((k, v) ∷ e ∷ es) ≡ one_node v + sized (e ∷ es) = sized-one (k, v) (e ∷ es) in
          let b = none-below k e.0 es p (first (below_all nat_cmp e.0 es) (is_sorted nat_cmp es) h) in
          omega (arith, a, b)
      | Equal ↦ λ p. let a : sized ((e.0, v) ∷ es) ≡ one_node v + sized es = sized-one (e.0, v) es in omega (arith, a, old)
      | Greater ↦ λ p.
          let a : sized (e ∷ put nat_cmp k v es) ≡ one_node e.1 + sized (put nat_cmp k v es) = sized-one e (put nat_cmp k v es) in
          let b : sized (put nat_cmp k v es) + one_changed (find nat_cmp k es) ≡ sized es + one_node v = sized-put k v es (second (below_all nat_cmp e.0 es) (is_sorted nat_cmp es) h) in
          omega (arith, a, b, old)
    ] refl

pub size-insert : (F : Staged) (k : ℕ) (v : Option NodeRec) → staged_size (finite.insert F k v) + one_changed (finite.get F k) ≡ staged_size F + one_node v
size-insert F k v =
    let a : staged_size (finite.insert F k v) ≡ sized (put nat_cmp k v (finite.entries F)) = ap sized (finite.entries-insert nat_cmp_total F k v) in
    let b : one_changed (finite.get F k) ≡ one_changed (find nat_cmp k (finite.entries F)) = ap one_changed (finite.get-entries F k) in
    let c = sized-put k v (finite.entries F) (finite.entries_sorted F) in
    omega (arith, a, b, c)

-- ---- further changes, whose ids ascend

pub replaced-insert : (F : Staged) (k : ℕ) (v : Option NodeRec) (low : ℕ) (cs : List (Nid × Option NodeRec)) → k < low → ascend low cs ≡ true → replaced (finite.insert F k v) cs ≡ replaced F cs
replaced-insert F k v low [] lt h = refl
replaced-insert F k v low (c ∷ cs) lt h =
    let parts : (leb low (c.0).bits ≡ true) × (ascend ((c.0).bits + 1) cs ≡ true) = and_parts _ _ h in
    let le = leb-true low (c.0).bits parts.0 in
    let here : finite.get (finite.insert F k v) (c.0).bits ≡ finite.get F (c.0).bits =
    finite.get-insert nat_cmp_total F k v (c.0).bits ∙ ap (λ (b : Bool). cond b (Some v) (finite.get F (c.0).bits)) (apart (c.0).bits k (omega (arith, le, lt))) in
    let a : one_changed (finite.get (finite.insert F k v) (c.0).bits) ≡ one_changed (finite.get F (c.0).bits) = ap one_changed here in
    let b = replaced-insert F k v ((c.0).bits + 1) cs (omega (arith, le, lt)) parts.1 in
    omega (arith, a, b)

-- what is replaced is of what is put
pub replaced-le : (F : Staged) (low : ℕ) (cs : List (Nid × Option NodeRec)) → ascend low cs ≡ true → replaced F cs ≤ staged_size F
replaced-le F low [] h = omega arith
replaced-le F low (c ∷ cs) h =
    let parts : (leb low (c.0).bits ≡ true) × (ascend ((c.0).bits + 1) cs ≡ true) = and_parts _ _ h in
    let a = replaced-insert F (c.0).bits None ((c.0).bits + 1) cs (omega arith) parts.1 in
    let b = replaced-le (finite.insert F (c.0).bits None) ((c.0).bits + 1) cs parts.1 in
    let d = size-insert F (c.0).bits None in
    omega (arith, a, b, d)

-- what is put with further changes, and what they replace
pub size-with : (F : Staged) (low : ℕ) (cs : List (Nid × Option NodeRec)) → ascend low cs ≡ true → staged_size (with_changes F cs) + replaced F cs ≡ staged_size F + size cs
size-with F low [] h = omega arith
size-with F low (c ∷ cs) h =
    let parts : (leb low (c.0).bits ≡ true) × (ascend ((c.0).bits + 1) cs ≡ true) = and_parts _ _ h in
    let a = replaced-insert F (c.0).bits c.1 ((c.0).bits + 1) cs (omega arith) parts.1 in
    let b = size-with (finite.insert F (c.0).bits c.1) ((c.0).bits + 1) cs parts.1 in
    let d = size-insert F (c.0).bits c.1 in
    let e = size-one c cs in
    omega (arith, a, b, d, e)

pub size-with-le : (F : Staged) (cs : List (Nid × Option NodeRec)) → staged_size (with_changes F cs) ≤ staged_size F + size cs
size-with-le F [] = omega arith
size-with-le F (c ∷ cs) =
    let b = size-with-le (finite.insert F (c.0).bits c.1) cs in
    let d = size-insert F (c.0).bits c.1 in
    let e = size-one c cs in
    omega (arith, b, d, e)

-- what a transaction puts with further changes, counted up to 2^60
pub size-planned : (F : Staged) (cs : List (Nid × Option NodeRec)) (old gone kept more sum all : ℕ) → old ≡ staged_size F → old ≤ 16384 → ascend 0 cs ≡ true → gone ≡ replaced F cs → kept ≡ old - gone → more ≡ min (size cs) (2 ^ 60)
    → sum ≡ min (kept + more) (2 ^ 64 - 1) → all ≡ min sum (2 ^ 60) → all ≡ min (staged_size (with_changes F cs)) (2 ^ 60)
size-planned F cs old gone kept more sum all is few order a b c d e =
    let law = size-with F 0 cs order in
    let le = replaced-le F 0 cs order in
    omega (arith, is, few, a, b, c, d, e, law, le)
