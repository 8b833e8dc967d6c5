-- What a transaction makes of nodes before it is committed.
use Rattle.std.specs.Prelude.{◌≡◌, ℕ, List, [], ◌∷◌, map, Option, None, Some}
use Rattle.std.specs.FinMap as map
use Rattle.std.specs.Ordering.{nat_cmp}
use Rattle.pst_base.specs.declared.ids.Nid.{Nid}
use Rattle.node_port.specs.Nodes.{Nodes, node_at}
use Rattle.node_port.specs.Stops.{size}
use Rattle.node_port.specs.declared.node.NodeRec.{NodeRec}

-- each node that was changed, by the bits of its id, with what it is now, or nothing where it is gone
abbrev pub Staged : Type 0
Staged = map.FinMap nat_cmp (Option NodeRec)

abbrev pub none_staged : Staged
none_staged = map.empty

-- the same with further changes
abbrev pub with_changes : Staged → List (Nid × Option NodeRec) → Staged
with_changes F [] = F
with_changes F (c ∷ cs) = with_changes (map.insert F (c.0).bits c.1) cs

-- the change of one node
abbrev pub change_of : ℕ × Option NodeRec → Nid × Option NodeRec
change_of e = (record { bits = e.0 }, e.1)

-- the changes as a keeper takes them: by ascending ids, each node once
abbrev pub listed : Staged → List (Nid × Option NodeRec)
listed F = map change_of (map.entries F)

-- how many data blocks, nodes and subnodes they put
abbrev pub staged_size : Staged → ℕ
staged_size F = size (listed F)

-- what a change, if there is one, makes of a node
abbrev pub over : Option (Option NodeRec) → Option NodeRec → Option NodeRec
over None below = below
over (Some node) below = node

-- the nodes M are the nodes N with the changes
abbrev pub IsOver : Nodes → Staged → Nodes → Type 0
IsOver N F M = (q : ℕ) → node_at M q ≡ over (map.get F q) (node_at N q)
