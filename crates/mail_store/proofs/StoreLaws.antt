-- What a store plans and commits.
use Rattle.std.proofs.Common.{◌≡◌, ◌⊎◌, inl, inr, refl, ℕ, List, Option, Some, Result, Ok, Err, IfOk, sym, subst, ◌∙◌}
use Rattle.std.specs.Result.{OnOk}
use Rattle.node_port.specs.Nodes.{Nodes, changed}
use Rattle.node_port.specs.Stops.{Room}
use Rattle.node_port.specs.declared.node.NodeRec.{NodeRec}
use Rattle.pst_base.specs.declared.ids.Nid.{Nid}
use Rattle.pst_outside.specs.World.{World}
use Rattle.mail_tree.specs.declared.known.Known.{Known}
use Rattle.mail_tree.specs.Changing.{Answer}
use Rattle.mail_tree.specs.Folders.{Outcome}
use Rattle.mail_tree.specs.Step.{after}
use Rattle.mail_tree.specs.Tree.{Shown, Tree}
use Rattle.mail_draft.specs.Answers.{Looks}
use Rattle.mail_draft.proofs.Looking.{shown_still}
use Rattle.mail_store.specs.Planning.{Carries, SameKnown, ShowsTree, StandsFor, Stores}

-- what follows of what holds where a call succeeds
pub on_ok : {A E P Q : Type 0} (r : Result A E) → OnOk r P → (P → Q) → OnOk r Q
on_ok (Ok x) holds follows = follows holds
on_ok (Err e) holds follows = tt

-- changes that were applied make the nodes show the tree after them
pub applied : {R A E : Type 0} (r : Result A E) (holds holds' : Nodes → Type 0) (last last' : List ℕ) (fits : R → List ℕ → List (Nid × Option NodeRec) → Type 0) (ready : R) (rests told : Type 0)
    → OnOk r ((n : List ℕ) (cs : List (Nid × Option NodeRec)) → fits ready n cs → rests → told → (N : Nodes) → holds N → holds' (changed N cs))
    → OnOk r ((n : List ℕ) (cs : List (Nid × Option NodeRec)) → fits ready n cs → last' ≡ n)
    → OnOk r ((T : Tree) (o : Outcome) → Shown holds last T → Carries fits T o (Some ready) → rests → told → Shown holds' last' (after T o))
applied (Ok u) holds holds' last last' fits ready rests told made kept = λ T o s carries at_rest is_told. record {
  nodes = changed s.nodes carries.0;
  held = made o.last carries.0 carries.1 at_rest is_told s.nodes s.held;
  at = carries.2 s.nodes s.at;
  counters = sym (kept o.last carries.0 carries.1);
}
applied (Err e) holds holds' last last' fits ready rests told made kept = tt

-- what holds where there is an answer holds of it
pub of_answer : {A : Type 0} (P : A → Type 0) (answer : Answer A) (x : A) → IfOk answer P → answer ≡ Ok x → P x
of_answer P (Ok y) x holds is = subst (λ a. IfOk a P) is holds
of_answer P (Err e) x holds is = cc

-- a store that was only looked at has its tree still
pub stores_still : {holds holds' : Nodes → Type 0} {last last' : List ℕ} {room room' : Room} {v w : World} (known known' : Known) (T : Tree)
    → Looks holds holds' last last' room room' v w → SameKnown known known' → Stores holds last known T → Stores holds' last' known' T
stores_still known known' T looks same s = record {
  shown = shown_still T looks s.shown;
  knows = record { places = s.knows.places ∙ sym same.0; flags = λ m unread is. s.knows.flags m unread (sym (same.1 m) ∙ is) };
}

-- what stands for nodes that show a tree stands for the tree
pub shown_stands : {holds : Nodes → Type 0} (stands : Nodes → List ℕ → Type 0) (last : List ℕ) (T : Tree) (s : Shown holds last T) → stands s.nodes last → StandsFor stands T
shown_stands stands last T s is = record {
  nodes = s.nodes;
  held = subst (λ l. stands s.nodes l) (sym s.counters) is;
  at = s.at;
  counters = refl;
}

-- before a change or after it
pub applied_stands : {holds : Nodes → Type 0} (stands : Nodes → List ℕ → Type 0) (last : List ℕ) (T : Tree) (o : Outcome) (s : Shown holds last T) (cs : List (Nid × Option NodeRec))
    → ((N : Nodes) → ShowsTree N T → ShowsTree (changed N cs) (after T o)) → stands s.nodes last ⊎ stands (changed s.nodes cs) o.last → StandsFor stands T ⊎ StandsFor stands (after T o)
applied_stands stands last T o s cs shows (inl is) = inl (shown_stands stands last T s is)
applied_stands stands last T o s cs shows (inr is) = inr (record {
  nodes = changed s.nodes cs;
  held = is;
  at = shows s.nodes s.at;
  counters = refl;
})
