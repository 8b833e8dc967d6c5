-- The list of a search folder.
use Rattle.std.proofs.Common.{◌≡◌, ◌∙◌, ℕ, Option, Some, IsSome, refl, sym, ap, subst}
use Rattle.pst_base.specs.declared.ids.Nid.{Nid}
use Rattle.mail_tree.specs.declared.places.FolderPlace.{FolderPlace}
use Rattle.std.specs.Prelude.{List}
use Rattle.node_port.specs.Nodes.{Nodes, node_at}
use Rattle.node_port.specs.declared.node.NodeRec.{NodeRec}
use Rattle.search_obj.specs.Crits.{Crit}
use Rattle.mail_searches.specs.Searches.{results}
use Rattle.search_look.specs.Having.{IsOwnIn, IsSearchIn}
use Rattle.search_look.specs.Faults.{HasSearchFault}
use Rattle.search_look.specs.Looking.{FoundAt, IsList, IsNoList, TellsOwnAt}
use Rattle.search_look.specs.declared.stops.SearchRefusal.{SearchRefusal}
use Rattle.search_look.specs.declared.stops.SearchRefusal.TheVariants as refusals

-- the folder is an own one where its list is there and its criteria object says criteria
own_in : (N : Nodes) (f : ℕ) (list : NodeRec) (k : Crit) → node_at N (results f) ≡ Some list → TellsOwnAt N f (Some k) → IsOwnIn N f
own_in N f list k at told = (subst (λ (o : Option NodeRec). IsSome o) (sym at) refl, (told.1.0, told.0, told.1.1, told.1.2, ((k.version), told.2.marked)))

-- what was found of an own folder
pub found_at : (N : Nodes) (f : ℕ) (list : NodeRec) (k : Crit) → node_at N (results f) ≡ Some list → TellsOwnAt N f (Some k) → IsList list → FoundAt N f (Some k)
found_at N f list k at told is = (own_in N f list k at told, told, (is.0, (list, at, is.1)))

-- what is wrong with its list
pub list_fault : (N : Nodes) (places : List FolderPlace) (folder nid : Nid) (list : NodeRec) (k : Crit) (refusal : SearchRefusal) → IsSearchIn places folder.bits → nid.bits ≡ results folder.bits
    → node_at N (results folder.bits) ≡ Some list → TellsOwnAt N folder.bits (Some k) → IsNoList nid list refusal → HasSearchFault N places refusal
list_fault N places folder nid list k (refusals.Node q fault) search beside at told is =
    let q_is : q.bits ≡ results folder.bits = ap (λ (n : Nid). n.bits) is.0 ∙ beside in
    (folder.bits, search, own_in N folder.bits list k at told, q_is, (list, ap (node_at N) q_is ∙ at, is.1))
list_fault N places folder nid list k (refusals.Criteria q) search beside at told is = absurd is
list_fault N places folder nid list k (refusals.Stale f) search beside at told is = absurd is
