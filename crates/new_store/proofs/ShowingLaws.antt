-- Nodes of a new store's entries show its tree.
use Rattle.std.proofs.Common.{◌≡◌, ◌∙◌, ◌⊎◌, inl, inr, ℕ, ◌+◌, Bool, true, false, cond, List, [], ◌∷◌, ◌++◌, length, map, suc, refl, sym, ap, subst, arith, eq-eqb, Option, None, Some, is_some, ◌||◌}
use Rattle.std.proofs.lemmas.Bool.{and_from, and_parts, both_ways, cases_Bool, cases_eq, eqb-true, le-ltb, ne_eqb, not-true}
use Rattle.std.specs.Prelude.{◌==◌, ◌&&◌, not, nat_le, nat_lt, if◌then◌else◌, IsTrue}
use Rattle.std.specs.List.{list_all, list_any}
use Rattle.std.specs.Ordering.{nat_cmp, eq_by_cmp}
use Rattle.std.specs.Cmp.{nat_cmp_total}
use Rattle.std.specs.FinMap as finite
use Rattle.pst_base.specs.declared.ids.Nid.{Nid}
use Rattle.node_port.specs.declared.node.NodeRec.{NodeRec}
use Rattle.node_port.specs.Nodes.{Nodes, ascend, changed, get-set_at, no_nodes, node_at, set_at}
use Rattle.mail_objects.specs.declared.object.Object.{Object}
use Rattle.mail_tree.specs.Folders.{nid}
use Rattle.mail_tree.specs.Start.{IsStart, IsStartNode, empty_node, start_last, start_objects, start_others, start_places}
use Rattle.mail_tree.specs.Tree.{StandsAt, Tree, object_at}
use Rattle.new_store.specs.Entries.{AreNodesOf, IsNodeOf, start_entries, start_ids}

-- ---- ids in lists

-- the id is in the list
abbrev has : ℕ → List ℕ → Bool
has q ids = list_any (λ k. q == k) ids

-- no id stands twice
abbrev distinct : List ℕ → Bool
distinct [] = true
distinct (k ∷ ks) = not (has k ks) && distinct ks

-- the ids rise from a number on
abbrev rise : ℕ → List ℕ → Bool
rise low [] = true
rise low (k ∷ ks) = nat_le low k && rise (k + 1) ks

-- ids tie where they are equal
tie : (q k : ℕ) → eq_by_cmp nat_cmp q k ≡ (q == k)
tie q k = elim (cases_eq q k) [
  | inl e ↦ rw e (rw (le-ltb k k (omega arith), eq-eqb k k refl) refl)
  | inr n ↦ elim (cases_Bool (nat_lt q k)) [ inl t ↦ rw (t, ne_eqb q k n) refl | inr f ↦ rw (f, ne_eqb q k n) refl ]
]

cases_Option : {X : Type 0} (o : Option X) → (o ≡ None) ⊎ ((x : X) × (o ≡ Some x))
cases_Option None = inl refl
cases_Option (Some x) = inr (x, refl)

or_parts : (x y : Bool) → (x || y) ≡ false → (x ≡ false) × (y ≡ false)
or_parts true y e = absurd (both_ways true e refl)
or_parts false y e = (refl, e)

-- an id that is found passes what all ids of the list pass
found-passes : (P : ℕ → Bool) (q : ℕ) (o : Object) (es : List (ℕ × Object)) → list_all (λ e. P e.0) es ≡ true → finite.find nat_cmp q es ≡ Some o → P q ≡ true
found-passes P q o [] all e = absurd cc
found-passes P q o (x ∷ es) all e =
    let parts = and_parts (P x.0) (list_all (λ e. P e.0) es) all in
    elim (cases_Bool (q == x.0)) [
      | inl t ↦ ap P (eqb-true q x.0 t) ∙ parts.0
      | inr f ↦ found-passes P q o es parts.1 (rw (tie q x.0, f) at e)
    ]

-- so does one that is in a list of ids
member-passes : (P : ℕ → Bool) (q : ℕ) (ids : List ℕ) → list_all P ids ≡ true → has q ids ≡ true → P q ≡ true
member-passes P q [] all h = absurd (both_ways false refl h)
member-passes P q (k ∷ ks) all h =
    let parts = and_parts (P k) (list_all P ks) all in
    elim (cases_Bool (q == k)) [
      | inl t ↦ ap P (eqb-true q k t) ∙ parts.0
      | inr f ↦ member-passes P q ks parts.1 (rw f at h)
    ]

-- what is found in a list is found in that list before another, and what isn't is found as in the other
found-first : (q : ℕ) (o : Object) (es fs : List (ℕ × Object)) → finite.find nat_cmp q es ≡ Some o → finite.find nat_cmp q (es ++ fs) ≡ Some o
found-first q o [] fs e = absurd cc
found-first q o (x ∷ es) fs e = elim (cases_Bool (q == x.0)) [
  | inl t ↦ rw (tie q x.0, t) (rw (tie q x.0, t) at e)
  | inr f ↦ rw (tie q x.0, f) (found-first q o es fs (rw (tie q x.0, f) at e))
]

found-later : (q : ℕ) (es fs : List (ℕ × Object)) → finite.find nat_cmp q es ≡ None → finite.find nat_cmp q (es ++ fs) ≡ finite.find nat_cmp q fs
found-later q [] fs e = refl
found-later q (x ∷ es) fs e = elim (cases_Bool (q == x.0)) [
  | inl t ↦ absurd (let e' = rw (tie q x.0, t) at e in cc)
  | inr f ↦ rw (tie q x.0, f) (found-later q es fs (rw (tie q x.0, f) at e))
]

-- ---- nodes at ids

-- what stands at ids, as entries
abbrev entries_at : (ℕ → Option Object) → List ℕ → List (Nid × Option Object)
entries_at f ids = map (λ q. (nid q, f q)) ids

-- a node put at one id is seen there, and nowhere else
seen : (N : Nodes) (n : Nid × Option NodeRec) (k q : ℕ) (b : Bool) → n.0 ≡ nid k → (q == k) ≡ b → node_at (set_at N (n.0).bits n.1) q ≡ cond b n.1 (node_at N q)
seen N n k q b same is =
    get-set_at N (n.0).bits n.1 q
    ∙ ap (λ b. cond b n.1 (node_at N q)) (tie q (n.0).bits ∙ (ap (λ (i : Nid). q == i.bits) same ∙ is))

-- elsewhere nothing changes
elsewhere : (f : ℕ → Option Object) (ids : List ℕ) (ns : List (Nid × Option NodeRec)) → AreNodesOf (entries_at f ids) ns
    → (q : ℕ) → has q ids ≡ false → (N : Nodes) → node_at (changed N ns) q ≡ node_at N q
elsewhere f [] [] a q h N = refl
elsewhere f [] (n ∷ ns) a q h N = absurd a
elsewhere f (k ∷ ks) [] a q h N = absurd a
elsewhere f (k ∷ ks) (n ∷ ns) a q h N =
    let parts = or_parts (q == k) (has q ks) h in
    elsewhere f ks ns a.2 q parts.1 (set_at N (n.0).bits n.1) ∙ seen N n k q false a.0 parts.0

-- at each of the ids stands its node
abbrev Stands : ℕ → Option NodeRec → Option Object → Type 0
Stands q node object = (rec : NodeRec) × (node ≡ Some rec) × IsNodeOf q object rec

there : (f : ℕ → Option Object) (ids : List ℕ) (ns : List (Nid × Option NodeRec)) → AreNodesOf (entries_at f ids) ns → distinct ids ≡ true
    → (q : ℕ) → has q ids ≡ true → (N : Nodes) → Stands q (node_at (changed N ns) q) (f q)
there f [] [] a d q h N = absurd (both_ways false refl h)
there f [] (n ∷ ns) a d q h N = absurd a
there f (k ∷ ks) [] a d q h N = absurd a
there f (k ∷ ks) (n ∷ ns) a d q h N =
    let apart = and_parts (not (has k ks)) (distinct ks) d in
    elim (cases_Bool (q == k)) [
      | inl t ↦
          let same : q ≡ k = eqb-true q k t in
          let gone : has q ks ≡ false = ap (λ i. has i ks) same ∙ not-true (has k ks) apart.0 in (
            a.1.0,
            elsewhere f ks ns a.2 q gone (set_at N (n.0).bits n.1) ∙ (seen N n k q true a.0 t ∙ a.1.1),
            subst (λ i. IsNodeOf i (f i) a.1.0) (sym same) a.1.2,
          )
      | inr n1 ↦ there f ks ns a.2 apart.1 q (rw n1 at h) (set_at N (n.0).bits n.1)
    ]

-- nodes of ids that rise ascend
rising : (f : ℕ → Option Object) (low : ℕ) (ids : List ℕ) (ns : List (Nid × Option NodeRec)) → AreNodesOf (entries_at f ids) ns → rise low ids ≡ true → ascend low ns ≡ true
rising f low [] [] a r = refl
rising f low [] (n ∷ ns) a r = absurd a
rising f low (k ∷ ks) [] a r = refl
rising f low (k ∷ ks) (n ∷ ns) a r =
    let parts = and_parts (nat_le low k) (rise (k + 1) ks) r in
    let bits : (n.0).bits ≡ k = ap (λ (i : Nid). i.bits) a.0 in
    and_from _ _ (ap (nat_le low) bits ∙ parts.0) (ap (λ i. ascend (i + 1) ns) bits ∙ rising f (k + 1) ks ns a.2 parts.1)

-- ---- the tree

-- the id is that of a node without data
abbrev is_bare : ℕ → Bool
is_bare q = (q == 0x1E1) || (q == 0x201)

-- an object has this id
abbrev is_in : List (ℕ × Object) → ℕ → Bool
is_in es q = is_some (finite.find nat_cmp q es)

-- The ids are those of objects in the tree, of others, and of nodes without data, and no two of these meet.
record Sorts (ids : List ℕ) (os ts : List (ℕ × Object)) : Type 0 where
  pub apart : distinct ids ≡ true
  pub objects : list_all (λ e. has e.0 ids) os ≡ true
  pub others : list_all (λ e. has e.0 ids) ts ≡ true
  pub others_apart : list_all (λ e. not (is_in os e.0)) ts ≡ true
  pub objects_full : list_all (λ e. not (is_bare e.0)) os ≡ true
  pub known : list_all (λ k. is_in (os ++ ts) k || is_bare k) ids ≡ true
  pub bare : (q : ℕ) → is_bare q ≡ true → has q ids ≡ true

-- the nodes without those of the objects
abbrev without : List (ℕ × Object) → Nodes → Nodes
without os N = finite.retain_keys N (λ q. not (is_in os q))

left : (os : List (ℕ × Object)) (N : Nodes) (q : ℕ) → node_at (without os N) q ≡ cond (not (is_in os q)) (node_at N q) None
left os N q = finite.get-retain_keys N (λ q. not (is_in os q)) q (λ x e. ap (λ i. not (is_in os i)) (sym (finite.nat_cmp-IsAntisymmetric q x e)))

left-some : (os : List (ℕ × Object)) (N : Nodes) (q : ℕ) (o : Object) → finite.find nat_cmp q os ≡ Some o → node_at (without os N) q ≡ None
left-some os N q o e = left os N q ∙ ap (λ (x : Option Object). cond (not (is_some x)) (node_at N q) None) e

left-none : (os : List (ℕ × Object)) (N : Nodes) (q : ℕ) → finite.find nat_cmp q os ≡ None → node_at (without os N) q ≡ node_at N q
left-none os N q e = left os N q ∙ ap (λ (x : Option Object). cond (not (is_some x)) (node_at N q) None) e

not-in : (x : Option Object) → not (is_some x) ≡ true → x ≡ None
not-in None e = refl
not-in (Some o) e = absurd (both_ways true (not-true true e) refl)

-- what stands at an id, in the tree or beside it
abbrev either : List (ℕ × Object) → List (ℕ × Object) → ℕ → Option Object
either os ts q = finite.find nat_cmp q (os ++ ts)

-- the nodes beside the tree are the others
beside-tree : (ids : List ℕ) (os ts : List (ℕ × Object)) → Sorts ids os ts → (N : Nodes)
    → ((q : ℕ) → has q ids ≡ true → Stands q (node_at N q) (either os ts q)) → ((q : ℕ) → has q ids ≡ false → node_at N q ≡ None)
    → (q : ℕ) → IsStartNode q (finite.find nat_cmp q ts) (node_at (without os N) q)
beside-tree ids os ts S N stands none q = elim (cases_Option (finite.find nat_cmp q ts)) [
  | inr found ↦
      let apart : finite.find nat_cmp q os ≡ None = not-in _ (found-passes (λ k. not (is_in os k)) q found.0 ts S.others_apart found.1) in
      let at : Stands q (node_at N q) (either os ts q) = stands q (found-passes (λ k. has k ids) q found.0 ts S.others found.1) in
      subst (λ (x : Option Object). IsStartNode q x (node_at (without os N) q)) (sym found.1)
      (at.0, left-none os N q apart ∙ at.1, subst (λ (x : Option Object). IsNodeOf q x at.0) (found-later q os ts apart ∙ found.1) at.2)
  | inl lacks ↦ subst (λ (x : Option Object). IsStartNode q x (node_at (without os N) q)) (sym lacks) (bare-node q lacks)
]
  where
    bare-node : (q : ℕ) → finite.find nat_cmp q ts ≡ None → node_at (without os N) q ≡ (if is_bare q then Some empty_node else None)
    bare-node q lacks = elim (cases_Option (finite.find nat_cmp q os)) [
      | inr found ↦
          let full : is_bare q ≡ false = not-true _ (found-passes (λ k. not (is_bare k)) q found.0 os S.objects_full found.1) in
          left-some os N q found.0 found.1 ∙ sym (ap (λ b. if b then Some empty_node else None) full)
      | inl gone ↦ left-none os N q gone ∙ elim (cases_Bool (has q ids)) [
        | inl t ↦
            let at : Stands q (node_at N q) (either os ts q) = stands q t in
            let no : either os ts q ≡ None = found-later q os ts gone ∙ lacks in
            let is : is_bare q ≡ true = ap (λ (x : Option Object). is_some x || is_bare q) (sym no) ∙ member-passes (λ k. is_in (os ++ ts) k || is_bare k) q ids S.known t in
            let empty : at.0 ≡ empty_node = subst (λ (x : Option Object). IsNodeOf q x at.0) no at.2 in
            at.1 ∙ (ap Some empty ∙ sym (ap (λ b. if b then Some empty_node else None) is))
        | inr f ↦
            let full : is_bare q ≡ false = elim (cases_Bool (is_bare q)) [ inl t ↦ absurd (both_ways _ f (S.bare q t)) | inr f2 ↦ f2 ] in
            none q f ∙ sym (ap (λ b. if b then Some empty_node else None) full)
      ]
    ]

-- the nodes show the tree
in-tree : (ids : List ℕ) (os ts : List (ℕ × Object)) → Sorts ids os ts → (N : Nodes)
    → ((q : ℕ) → has q ids ≡ true → Stands q (node_at N q) (either os ts q))
    → (q : ℕ) → StandsAt q (node_at N q) (finite.find nat_cmp q os) (node_at (without os N) q)
in-tree ids os ts S N stands q = elim (cases_Option (finite.find nat_cmp q os)) [
  | inr found ↦
      let at : Stands q (node_at N q) (either os ts q) = stands q (found-passes (λ k. has k ids) q found.0 os S.objects found.1) in
      subst (λ (x : Option Object). StandsAt q (node_at N q) x (node_at (without os N) q)) (sym found.1)
      (left-some os N q found.0 found.1, (at.0, at.1, subst (λ (x : Option Object). IsNodeOf q x at.0) (found-first q found.0 os ts found.1) at.2))
  | inl gone ↦ subst (λ (x : Option Object). StandsAt q (node_at N q) x (node_at (without os N) q)) (sym gone) (sym (left-none os N q gone))
]

-- ---- the new store

-- the sorts of a new store's ids
is-bare : (q : ℕ) → is_bare q ≡ true → has q start_ids ≡ true
is-bare q b = elim (cases_Bool (q == 0x1E1)) [
  | inl t ↦ ap (λ k. has k start_ids) (eqb-true q 0x1E1 t)
  | inr f ↦ ap (λ k. has k start_ids) (eqb-true q 0x201 (rw f at b))
]

start-sorts : (name : List ℕ) → Sorts start_ids (start_objects name) start_others
unfolding start_objects start_others
start-sorts name = record { apart = refl; objects = refl; others = refl; others_apart = refl; objects_full = refl; known = refl; bare = is-bare }

-- the tree that the nodes show
abbrev start_tree : List ℕ → List (Nid × Option NodeRec) → Tree
start_tree name ns = record { places = start_places; objects = finite.from_entries (start_objects name); others = without (start_objects name) (changed no_nodes ns); last = start_last }

start-stands : (name : List ℕ) (ns : List (Nid × Option NodeRec)) → AreNodesOf (start_entries name) ns
    → (q : ℕ) → has q start_ids ≡ true → Stands q (node_at (changed no_nodes ns) q) (either (start_objects name) start_others q)
unfolding start_entries
start-stands name ns a q h = there (either (start_objects name) start_others) start_ids ns a refl q h no_nodes

start-none : (name : List ℕ) (ns : List (Nid × Option NodeRec)) → AreNodesOf (start_entries name) ns
    → (q : ℕ) → has q start_ids ≡ false → node_at (changed no_nodes ns) q ≡ None
unfolding start_entries
start-none name ns a q h = elsewhere (either (start_objects name) start_others) start_ids ns a q h no_nodes ∙ finite.get-empty nat_cmp q

-- nodes of a new store's entries ascend
pub start-ascend : (name : List ℕ) (ns : List (Nid × Option NodeRec)) → AreNodesOf (start_entries name) ns → IsTrue (ascend 0 ns)
unfolding start_entries
start-ascend name ns a = rising (either (start_objects name) start_others) 0 start_ids ns a refl

-- and show its tree
pub start-shows : (name : List ℕ) (ns : List (Nid × Option NodeRec)) → AreNodesOf (start_entries name) ns
    → (T : Tree) × IsStart name T × ((q : ℕ) → StandsAt q (node_at (changed no_nodes ns) q) (object_at T q) (node_at T.others q))
start-shows name ns a =
    let os = start_objects name in
    let N = changed no_nodes ns in
    let S : Sorts start_ids os start_others = start-sorts name in (
      start_tree name ns,
      record { places = refl; objects = refl; others = beside-tree start_ids os start_others S N (start-stands name ns a) (start-none name ns a); counters = refl },
      λ q. subst (λ (x : Option Object). StandsAt q (node_at N q) x (node_at (without os N) q)) (sym (finite.get-from_entries nat_cmp_total os q))
          (in-tree start_ids os start_others S N (start-stands name ns a) q),
    )

-- ---- how many there are

nodes-many : (es : List (Nid × Option Object)) (ns : List (Nid × Option NodeRec)) → AreNodesOf es ns → length ns ≡ length es
nodes-many [] [] are = refl
nodes-many [] (n ∷ ns) are = absurd are
nodes-many (e ∷ es) [] are = absurd are
nodes-many (e ∷ es) (n ∷ ns) are = ap (λ k. suc k) (nodes-many es ns are.2)

pub start-many : (name : List ℕ) (ns : List (Nid × Option NodeRec)) → AreNodesOf (start_entries name) ns → length ns ≡ 26
unfolding start_entries
start-many name ns are = nodes-many (start_entries name) ns are
