-- The nodes of own searches tell them from others' still after a command.
use Rattle.std.proofs.Common.{◌≡◌, ◌∙◌, ◌⊎◌, ℕ, ◌%◌, Bool, true, false, cond, List, Option, None, Some, IsSome, is_some, ap, refl, subst, sym, inl, inr}
use Rattle.std.proofs.lemmas.Bool.{false≢true}
use Rattle.std.proofs.lemmas.Option.{none-some}
use Rattle.std.specs.FinMap as map
use Rattle.node_port.specs.Nodes.{node_at}
use Rattle.node_port.specs.declared.node.NodeRec.{NodeRec}
use Rattle.mail_objects.specs.declared.object.Object.{Object}
use Rattle.mail_tree.specs.Changing.{newest, now_at}
use Rattle.mail_tree.specs.Folders.{Outcome}
use Rattle.mail_tree.specs.Places.{find_place}
use Rattle.mail_tree.specs.Step as tree
use Rattle.mail_tree.specs.Tree.{Tree, object_at}
use Rattle.mail_searches.specs.Criteria.{Coming}
use Rattle.mail_searches.specs.Searches.{Search, criteria_node, results, updates}
use Rattle.mail_searches.specs.Searching.{Searching, is_own}
use Rattle.mail_searches.specs.Step.{after}
use Rattle.search_lists.specs.Order.{AreMarked, AreOwn}
use Rattle.search_lists.proofs.AfterOrder.{other_after}

-- the other nodes after a command are some of those before
others_then : (T : Tree) (o : Outcome) (q : ℕ) → (node_at (tree.after T o).others q ≡ None) ⊎ (node_at (tree.after T o).others q ≡ node_at T.others q)
others_then T o q = either (is_some (map.get o.changed.objects q)) (node_at T.others q) (other_after T o q)
  where
    either : (b : Bool) (old : Option NodeRec) → node_at (tree.after T o).others q ≡ cond b None old → (node_at (tree.after T o).others q ≡ None) ⊎ (node_at (tree.after T o).others q ≡ old)
    either true old e = inl e
    either false old e = inr e

-- one that is there was there
node_was : (T : Tree) (o : Outcome) (q : ℕ) (node : NodeRec) → node_at (tree.after T o).others q ≡ Some node → node_at T.others q ≡ Some node
node_was T o q node at = elim (others_then T o q) [ inl none ↦ absurd (none-some node (sym none ∙ at)) | inr same ↦ sym same ∙ at ]

-- so nodes of an own search that are there were there
were_own : (T : Tree) (o : Outcome) (p q : ℕ) → AreOwn (node_at (tree.after T o).others p) (node_at (tree.after T o).others q) → AreOwn (node_at T.others p) (node_at T.others q)
were_own T o p q are =
    let list : IsSome (node_at T.others p) = elim (others_then T o p) [ inl none ↦ absurd (false≢true (subst IsSome none are.0)) | inr same ↦ subst IsSome same are.0 ] in
    let said = are.1 in
    (list, (said.0, said.1, node_was T o q said.0 said.2, said.3, said.4))

-- where an object came no other node stands
pub none_beside : (T : Tree) (o : Outcome) (q : ℕ) (x : Object) → object_at T q ≡ None → now_at T o.changed q ≡ Some x → node_at (tree.after T o).others q ≡ None
none_beside T o q x free there = other_after T o q ∙ ap (λ b. cond {A = Option NodeRec} b None (node_at T.others q)) (came (map.get o.changed.objects q) (object_at T q) free there)
  where
    came : (found : Option (Option Object)) (old : Option Object) → old ≡ None → newest found old ≡ Some x → is_some found ≡ true
    came (Some object) old none is = refl
    came None old none is = absurd (none-some x (sym none ∙ is))

-- a search folder that isn't own was there and not own, and beside each that becomes own no other node of updates stands
pub marks_stay : (X : Searching) (o : Coming) → AreMarked X
    → ((f : ℕ) → f % 32 ≡ 3 → is_own o.own f ≡ false → IsSome (find_place f o.outcome.places) → IsSome (find_place f X.tree.places) × (is_own X.own f ≡ false))
    → ((f : ℕ) → is_own o.own f ≡ true → (is_own X.own f ≡ true) ⊎ (node_at (tree.after X.tree o.outcome).others (updates f) ≡ None)) → AreMarked (after X o)
marks_stay X o m were old = record {
  foreign = λ f there three other are. let was = were f three other there in m.foreign f was.0 three was.1 (were_own X.tree o.outcome (results f) (criteria_node f) are);
  updates = λ f node parent own at bare. elim (old f own) [
    | inl was ↦ m.updates f node parent was (node_was X.tree o.outcome (updates f) node at) bare
    | inr none ↦ none-some node (sym none ∙ at)
  ];
}

-- the same folders are own, and each other search folder stands where it stood
pub marks_still : (X : Searching) (o : Outcome) (searches : List Search) → AreMarked X → ((f : ℕ) → f % 32 ≡ 3 → is_own X.own f ≡ false → find_place f o.places ≡ find_place f X.tree.places)
    → AreMarked (after X (record { outcome = o; own = X.own; searches = searches }))
marks_still X o searches m same = marks_stay X (record { outcome = o; own = X.own; searches = searches }) m (λ f three other there. (subst IsSome (same f three other) there, other)) (λ f own. inl own)
