-- What crates above need of transactions.
use Rattle.std.proofs.Common.{◌≡◌, ◌∙◌, ℕ, ◌+◌, ◌<◌, ◌≤◌, List, [], map, Option, IsTrue, sym, ap, subst, arith}
use Rattle.std.specs.Ordering.{nat_cmp}
use Rattle.std.specs.FinMap as finite
use Rattle.pst_base.specs.declared.ids.Nid.{Nid}
use Rattle.node_port.specs.Nodes.{Nodes, ascend, changed, node_at}
use Rattle.node_port.specs.Stops.{size}
use Rattle.node_port.specs.declared.node.NodeRec.{NodeRec}
use Rattle.staged_nodes.specs.declared.staging.StagedReady.{StagedReady}
use Rattle.staged_nodes.specs.declared.staging.Staging.{Staging}
use Rattle.staged_nodes.specs.Sizes.{MOST_STAGED}
use Rattle.staged_nodes.specs.Staged.{IsOver, Staged, change_of, listed, none_staged, over, staged_size, with_changes}
use Rattle.staged_nodes.specs.Staging.{Fits, HasChanges, IsStaged, LiesOver, SameChanges, Slots}
use Rattle.staged_nodes.proofs.SizeLaws.{size-with-le, sized}
use Rattle.staged_nodes.proofs.OverLaws.{ascend-entries, no-entries, over-entries, over-with}

pub listed_ascend : (F : Staged) → IsTrue (ascend 0 (listed F))
listed_ascend F = ascend-entries F

pub over_listed : (N : Nodes) (F : Staged) → IsOver N F (changed N (listed F))
over_listed N F = over-entries N F

pub over_none : (N : Nodes) → IsOver N none_staged N
over_none N q = sym (ap (λ (x : Option (Option NodeRec)). over x (node_at N q)) (finite.get-empty nat_cmp q))

pub over_more : (N M : Nodes) (F : Staged) (cs : List (Nid × Option NodeRec)) → IsOver N F M → IsOver N (with_changes F cs) (changed M cs)
over_more N M F cs is = over-with N M F cs is

pub over_lies : (N M : Nodes) (s : Slots) (F : Staged) → HasChanges s F → IsOver N F M → LiesOver N s M
over_lies N M s F has is q = is q ∙ ap (λ (x : Option (Option NodeRec)). over x (node_at N q)) (has q)

pub lies_over : (N M : Nodes) (s : Slots) (F : Staged) → HasChanges s F → LiesOver N s M → IsOver N F M
lies_over N M s F has is q = is q ∙ ap (λ (x : Option (Option NodeRec)). over x (node_at N q)) (sym (has q))

pub size_none : staged_size none_staged ≡ 0
size_none = ap sized no-entries

pub listed_none : listed none_staged ≡ []
listed_none = ap (map change_of) no-entries

pub size_more : (F : Staged) (cs : List (Nid × Option NodeRec)) → staged_size (with_changes F cs) ≤ staged_size F + size cs
size_more F cs = size-with-le F cs

pub staged_on : (s s' : Staging) (F : Staged) (ready : StagedReady) (last : List ℕ) (cs : List (Nid × Option NodeRec)) → IsStaged s F → Fits s ready last cs → ready.size ≤ MOST_STAGED → HasChanges s'.slots (with_changes F cs) → s'.size ≡ ready.size → IsStaged s' (with_changes F cs)
staged_on s s' F ready last cs is fits few has same =
    let e = fits.size F is in
    record { changes = has; size = omega (arith, e, few, same); few = omega (arith, few, same) }

pub same_staged : (s s' : Staging) (F : Staged) → SameChanges s.slots s'.slots → s'.size ≡ s.size → IsStaged s F → IsStaged s' F
same_staged s s' F same size is = record {
  changes = λ q. is.changes q ∙ sym (same q).0;
  size = size ∙ is.size;
  few = let few = is.few in omega (arith, size, few);
}

-- after slots were made for a planned command, r, and then filled, s'
pub staged_filled : (s r s' : Staging) (F : Staged) (ready : StagedReady) (last : List ℕ) (cs : List (Nid × Option NodeRec)) → IsStaged s F → Fits s ready last cs → ready.size ≤ MOST_STAGED → SameChanges s.slots r.slots
    → ((G : Staged) → HasChanges r.slots G → HasChanges s'.slots (with_changes G ready.nodes.items)) → s'.size ≡ ready.size → IsStaged s' (with_changes F cs)
staged_filled s r s' F ready last cs is fits few same fills size =
    staged_on s s' F ready last cs is fits few
    (subst (λ (ds : List (Nid × Option NodeRec)). HasChanges s'.slots (with_changes F ds)) fits.nodes (fills F (λ q. is.changes q ∙ sym (same q).0)))
    size

-- how much there is then
pub filled_size : (s : Staging) (F : Staged) (ready : StagedReady) (last : List ℕ) (cs : List (Nid × Option NodeRec)) → IsStaged s F → Fits s ready last cs → ready.size ≤ MOST_STAGED → ready.size ≡ staged_size (with_changes F cs)
filled_size s F ready last cs is fits few = let e = fits.size F is in omega (arith, e, few)

-- what is too much by the plan is too much
pub planned_size : (s : Staging) (F : Staged) (ready : StagedReady) (last : List ℕ) (cs : List (Nid × Option NodeRec)) → IsStaged s F → Fits s ready last cs → MOST_STAGED < ready.size → MOST_STAGED < staged_size (with_changes F cs)
planned_size s F ready last cs is fits much = let e = fits.size F is in omega (arith, e, much)
