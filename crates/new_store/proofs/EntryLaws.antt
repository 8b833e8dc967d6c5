-- Nodes of entries, one by one.
use Rattle.std.proofs.Common.{◌≡◌, ℕ, zero, suc, ◌<◌, true, List, [], ◌∷◌, ◌++◌, get_or, length, arith, Option, Some}
use Rattle.std.proofs.lemmas.Bool.{and_parts}
use Rattle.std.specs.List.{list_all}
use Rattle.pst_base.specs.declared.ids.Nid.{Nid}
use Rattle.node_port.specs.declared.node.NodeRec.{NodeRec}
use Rattle.mail_objects.specs.declared.object.Object.{Object}
use Rattle.new_store.specs.Entries.{AreNodesOf, IsNodeOf, can_write}

-- one node more of one entry more
pub one_node_more : (es : List (Nid × Option Object)) (ns : List (Nid × Option NodeRec)) (e : Nid × Option Object) (n : Nid × Option NodeRec)
    → AreNodesOf es ns → n.0 ≡ e.0 → ((rec : NodeRec) × (n.1 ≡ Some rec) × IsNodeOf (e.0).bits e.1 rec) → AreNodesOf (es ++ e ∷ []) (ns ++ n ∷ [])
one_node_more [] [] e n a same node = (same, node, tt)
one_node_more [] (m ∷ ns) e n a same node = absurd a
one_node_more (d ∷ es) [] e n a same node = absurd a
one_node_more (d ∷ es) (m ∷ ns) e n a same node = (a.0, a.1, one_node_more es ns e n a.2 same node)

-- each of entries that can be written can be
pub one-can : (es : List (Nid × Option Object)) (i : ℕ) (d : Nid × Option Object) → list_all can_write es ≡ true → i < length es → can_write (get_or es i d) ≡ true
one-can [] i d all h = absurd (omega arith)
one-can (e ∷ es) zero d all h = (and_parts (can_write e) (list_all can_write es) all).0
one-can (e ∷ es) (suc i) d all h = one-can es i d (and_parts (can_write e) (list_all can_write es) all).1 (omega arith)
