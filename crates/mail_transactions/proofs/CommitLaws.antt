-- What a commit of changes comes to.
use Rattle.std.proofs.Common.{◌≡◌, ◌∙◌, ◌⊎◌, inl, ℕ, ◌+◌, ◌≤◌, ◌==◌, length, Bool, false, List, [], Option, refl, sym, ap, subst, arith}
use Rattle.std.proofs.lemmas.Bool.{eqb-false}
use Rattle.pst_base.specs.declared.ids.Nid.{Nid}
use Rattle.pst_outside.specs.World.{Image, SameDisk, World}
use Rattle.pst_outside.specs.Calls.{Settled, Untouched}
use Rattle.pst_outside.proofs.Moments.{continues, quiet}
use Rattle.node_port.specs.Nodes.{Nodes, changed}
use Rattle.node_port.specs.declared.node.NodeRec.{NodeRec}
use Rattle.staged_store.specs.pinned_session.store_session.Disks.{Becomes, medium}
use Rattle.mail_transactions.specs.Committing.{LeavesNodes}

-- where nothing was done the disk stands for the nodes from before
pub nodes_quiet : (stands : Image → Nodes → List ℕ → Type 0) (last : List ℕ) (v w : World) (N : Nodes) (cs : List (Nid × Option NodeRec)) (counters : List ℕ) → Settled v → Untouched v w → stands v.here N last → LeavesNodes stands last v w N cs counters
nodes_quiet stands last v w N cs counters settled same is = quiet (λ c. (c.said ≡ v.here.said) × (stands c N last ⊎ stands c (changed N cs) counters)) settled same (λ told. (refl, inl is))

-- a plan and then its changes
pub nodes_made : (stands : Image → Nodes → List ℕ → Type 0) (last : List ℕ) (v m w : World) (N : Nodes) (cs : List (Nid × Option NodeRec)) (counters : List ℕ) → Settled v → Untouched v m → stands v.here N last → (w.tells → m.tells) → LeavesNodes stands last m w N cs counters → LeavesNodes stands last v w N cs counters
nodes_made stands last v m w N cs counters settled same is tells made =
    continues (nodes_quiet stands last v m N cs counters settled same is) made (λ c told k. (k.0 ∙ ap (λ (i : Image). i.said) (same.stays.here (tells told)), k.1))

-- a list that was seen to have something
pub not_empty : {X : Type 0} (xs : List X) (n : ℕ) (b : Bool) → n ≡ length xs → b ≡ (n == 0) → b ≡ false → xs ≡ [] → ⊥
not_empty xs n b len is found none = eqb-false n 0 (sym is ∙ found) (len ∙ ap length none)

own_disk : (c : Image) → SameDisk c c
own_disk c = record { main = refl; side = refl; copy = refl }

-- what was written between
pub becomes_made : (makes : ℕ → Image → Image → Type 0) (v m w : World) (cost : ℕ) → Untouched v m → (w.tells → m.tells) → w.tells → w.written ≤ m.written + cost → makes cost m.here w.here → Becomes makes (medium v) (medium w)
becomes_made makes v m w cost same tells told few made = record {
  image = w.here;
  bytes = cost;
  made = subst (λ (i : Image). makes cost i w.here) (same.stays.here (tells told)) made;
  same = own_disk w.here;
  few = let written = same.stays.written in omega (arith, few, written);
}
