-- What a tree shows once the nodes of a draft's objects are changed.
use Rattle.std.proofs.Common.{◌≡◌, ◌∙◌, ℕ, ◌+◌, ◌≤◌, nat_le, Bool, true, false, cond, List, [], ◌∷◌, Option, None, Some, is_some, refl, sym, ap, subst, arith}
use Rattle.std.proofs.lemmas.Bool.{and_from, and_parts, le-leb}
use Rattle.std.specs.Ordering.{nat_cmp, eq_by_cmp}
use Rattle.std.specs.FinMap as map
use Rattle.std.specs.List.{AllZip}
use Rattle.pst_base.specs.declared.ids.Nid.{Nid}
use Rattle.node_port.specs.Nodes.{Nodes, ascend, changed, node_at, set_at, get-set_at}
use Rattle.node_port.specs.Stops.{size}
use Rattle.node_port.specs.declared.node.NodeRec.{NodeRec}
use Rattle.mail_objects.specs.declared.object.Object.{Object}
use Rattle.mail_tree.proofs.AfterLaws.{get-with_changes, get-without_changed}
use Rattle.mail_tree.specs.Tree.{Objects, StandsAt, Tree, object_at}
use Rattle.mail_tree.specs.Changing.{Changed, newest}
use Rattle.mail_tree.specs.Folders.{Outcome}
use Rattle.mail_tree.specs.Step.{after, with_changes, without_changed}
use Rattle.mail_draft.proofs.SortedLaws.{StartsAt, entries-kept, first-once, same-id, sorted-rest, starts-after}
use Rattle.mail_draft.specs.declared.draft.Draft.{Draft}
use Rattle.mail_draft.specs.Drafts.{changed_of}
use Rattle.mail_draft.specs.Placed.{are_placed, is_placed}
use Rattle.mail_draft.specs.Space.{entries_space, space_of}
use Rattle.mail_draft.specs.Written.{IsWritten, Writes}

-- ---- in order

-- the changes ascend as the entries do
pub written-ascend : (low : ℕ) (es : List (ℕ × Option Object)) (cs : List (Nid × Option NodeRec)) → map.is_sorted nat_cmp es ≡ true → StartsAt low es → AllZip Writes es cs
    → ascend low cs ≡ true
written-ascend low [] [] sorted starts writes = refl
written-ascend low [] (c ∷ cs) sorted starts writes = absurd writes
written-ascend low (e ∷ es) [] sorted starts writes = absurd writes
written-ascend low (e ∷ es) (c ∷ cs) sorted starts writes =
    let same : (c.0).bits ≡ e.0 = writes.0.0 in
    and_from (nat_le low (c.0).bits) (ascend ((c.0).bits + 1) cs)
    (le-leb low (c.0).bits (omega arith))
    (written-ascend ((c.0).bits + 1) es cs (sorted-rest e es sorted) (subst (λ (k : ℕ). StartsAt (k + 1) es) (sym same) (starts-after e es sorted)) writes.1)

-- ---- in size

-- a node of an object takes no more than is asked for it
written-one : (object : Option Object) (nid : Nid) (node : Option NodeRec) (cs : List (Nid × Option NodeRec)) → IsWritten object node → size ((nid, node) ∷ cs) ≤ space_of object + size cs
unfolding space_of
written-one None nid None cs writes = omega arith
written-one None nid (Some node) cs writes = absurd (cc writes)
written-one (Some object) nid None cs writes = absurd writes
written-one (Some object) nid (Some node) cs writes = omega (arith, writes.1)

-- nor do all of them
pub written-size : (es : List (ℕ × Option Object)) (cs : List (Nid × Option NodeRec)) → AllZip Writes es cs → size cs ≤ entries_space es
written-size [] [] writes = omega arith
written-size [] (c ∷ cs) writes = absurd writes
written-size (e ∷ es) [] writes = absurd writes
written-size (e ∷ es) (c ∷ cs) writes = omega (arith, written-one e.1 c.0 c.1 cs writes.0.1, written-size es cs writes.1)

-- ---- at an id

-- where something was found, the node after is made of it; elsewhere it is the one before
abbrev Becomes : Option (Option Object) → Option NodeRec → Option NodeRec → Type 0
Becomes None before after = after ≡ before
Becomes (Some object) before after = IsWritten object after

-- what was found may stand at this id
abbrev MayStand : ℕ → Option (Option Object) → Type 0
MayStand q None = Unit {0}
MayStand q (Some object) = is_placed (q, object) ≡ true

one-more : (here : Bool) (object : Option Object) (found : Option (Option Object)) (put before mid after : Option NodeRec)
    → (here ≡ true → found ≡ None) → mid ≡ cond here put before → IsWritten object put → Becomes found mid after
    → Becomes (cond here (Some object) found) before after
one-more true object None put before mid after once is written rest = subst (IsWritten object) (sym (rest ∙ is)) written
one-more true object (Some other) put before mid after once is written rest = absurd (cc (once refl))
one-more false object None put before mid after once is written rest = rest ∙ is
one-more false object (Some other) put before mid after once is written rest = rest

becomes-all : (es : List (ℕ × Option Object)) (cs : List (Nid × Option NodeRec)) (N : Nodes) (q : ℕ) → map.is_sorted nat_cmp es ≡ true → AllZip Writes es cs
    → Becomes (map.find nat_cmp q es) (node_at N q) (node_at (changed N cs) q)
becomes-all [] [] N q sorted writes = refl
becomes-all [] (c ∷ cs) N q sorted writes = absurd writes
becomes-all (e ∷ es) [] N q sorted writes = absurd writes
becomes-all (e ∷ es) (c ∷ cs) N q sorted writes =
    one-more (eq_by_cmp nat_cmp q e.0) e.1 (map.find nat_cmp q es) c.1 (node_at N q) (node_at (set_at N (c.0).bits c.1) q) (node_at (changed N (c ∷ cs)) q)
    (first-once q e es sorted)
    (get-set_at N (c.0).bits c.1 q ∙ ap (λ (k : ℕ). cond (eq_by_cmp nat_cmp q k) c.1 (node_at N q)) writes.0.0)
    writes.0.1
    (becomes-all es cs (set_at N (c.0).bits c.1) q (sorted-rest e es sorted) writes.1)

placed-here : (here : Bool) (q k : ℕ) (object : Option Object) (found : Option (Option Object)) → (here ≡ true → q ≡ k) → is_placed (k, object) ≡ true → MayStand q found
    → MayStand q (cond here (Some object) found)
placed-here true q k object found same placed rest = subst (λ (i : ℕ). is_placed (i, object) ≡ true) (sym (same refl)) placed
placed-here false q k object found same placed rest = rest

placed-found : (es : List (ℕ × Option Object)) (q : ℕ) → are_placed es ≡ true → MayStand q (map.find nat_cmp q es)
placed-found [] q placed = tt
placed-found (e ∷ es) q placed =
    let parts = and_parts (is_placed e) (are_placed es) placed in
    placed-here (eq_by_cmp nat_cmp q e.0) q e.0 e.1 (map.find nat_cmp q es) (same-id q e.0) parts.0 (placed-found es q parts.1)

stands-still : (q : ℕ) (found : Option (Option Object)) (before after : Option NodeRec) (old : Option Object) (other : Option NodeRec)
    → Becomes found before after → MayStand q found → StandsAt q before old other → StandsAt q after (newest found old) (cond (is_some found) None other)
stands-still q None before after old other becomes may stands = subst (λ (node : Option NodeRec). StandsAt q node old other) (sym becomes) stands
stands-still q (Some None) before after old other becomes may stands = becomes
stands-still q (Some (Some object)) before None old other becomes may stands = absurd becomes
stands-still q (Some (Some object)) before (Some node) old other becomes may stands = (refl, (node, refl, becomes.0 q may))

-- where nodes show a tree, they show the tree after the changes once these nodes are changed
pub stands-after : (es : List (ℕ × Option Object)) (cs : List (Nid × Option NodeRec)) (N others : Nodes) (objects : Objects) (q : ℕ)
    → map.is_sorted nat_cmp es ≡ true → AllZip Writes es cs → are_placed es ≡ true → StandsAt q (node_at N q) (map.get objects q) (node_at others q)
    → StandsAt q (node_at (changed N cs) q) (map.get (with_changes es objects) q) (node_at (without_changed es others) q)
stands-after es cs N others objects q sorted writes placed stands =
    subst (λ (object : Option Object). StandsAt q (node_at (changed N cs) q) object (node_at (without_changed es others) q)) (sym (get-with_changes es objects q))
    (subst (λ (other : Option NodeRec). StandsAt q (node_at (changed N cs) q) (newest (map.find nat_cmp q es) (map.get objects q)) other) (sym (get-without_changed es others q))
    (stands-still q (map.find nat_cmp q es) (node_at N q) (node_at (changed N cs) q) (map.get objects q) (node_at others q)
    (becomes-all es cs N q sorted writes) (placed-found es q placed) stands))

-- so it is of the tree after a command
pub tree-after : (d : Draft) (cs : List (Nid × Option NodeRec)) (N : Nodes) (T : Tree) (o : Outcome) → o.changed ≡ changed_of d → map.is_sorted nat_cmp d.objects.entries ≡ true
    → AllZip Writes d.objects.entries cs → ((q : ℕ) → StandsAt q (node_at N q) (object_at T q) (node_at T.others q))
    → (q : ℕ) → StandsAt q (node_at (changed N cs) q) (object_at (after T o) q) (node_at (after T o).others q)
tree-after d cs N T o is sorted writes stands q =
    subst
    (λ (es : List (ℕ × Option Object)). StandsAt q (node_at (changed N cs) q) (map.get (with_changes es T.objects) q) (node_at (without_changed es T.others) q))
    (sym (ap (λ (D : Changed). map.entries D.objects) is ∙ entries-kept d.objects.entries sorted))
    (stands-after d.objects.entries cs N T.others T.objects q sorted writes d.placed (stands q))
