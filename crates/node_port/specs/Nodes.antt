-- The nodes that a keeper holds, and what changes make of them.
use Rattle.std.specs.Prelude.{◌≡◌, ℕ, ◌+◌, ◌<◌, ◌&&◌, Bool, true, nat_le, cond, List, [], ◌∷◌, length, slice_get, Option, None, Some, IsSome}
use Rattle.std.specs.Ordering.{nat_cmp, eq_by_cmp}
use Rattle.std.specs.Cmp.{nat_cmp_total}
use Rattle.std.specs.FinMap as map
use Rattle.pst_base.specs.declared.ids.Nid.{Nid}
use Rattle.node_port.specs.declared.node.NodeBlock.{NodeBlock}
use Rattle.node_port.specs.declared.node.NodeRec.{NodeRec}

-- the nodes by the bits of their ids
abbrev pub Nodes : Type 0
Nodes = map.FinMap nat_cmp NodeRec

abbrev pub no_nodes : Nodes
no_nodes = map.empty

-- the node with this id
abbrev pub node_at : Nodes → ℕ → Option NodeRec
node_at N nid = map.get N nid

-- a node without its subnodes
abbrev pub content_of : Option NodeRec → Option NodeRec
content_of None = None
content_of (Some node) = Some (record { parent = node.parent; blocks = node.blocks; subs = [] })

-- how many blocks there are, and the one at a position
abbrev pub counted : ℕ → List (List ℕ) → NodeBlock
counted position blocks = record { count = length blocks; block = slice_get blocks position }

-- how many data blocks a node has, and the one at a position
abbrev pub block_in : ℕ → Option NodeRec → Option NodeBlock
block_in position None = None
block_in position (Some node) = Some (counted position node.blocks)

-- the nodes with this one put, or removed
abbrev pub set_at : Nodes → ℕ → Option NodeRec → Nodes
set_at N nid None = map.remove N nid
set_at N nid (Some node) = map.insert N nid node

-- the nodes after all changes
abbrev pub changed : Nodes → List (Nid × Option NodeRec) → Nodes
changed N [] = N
changed N (c ∷ cs) = changed (set_at N (c.0).bits c.1) cs

-- the ids are at least this number and ascend strictly
abbrev pub ascend : ℕ → List (Nid × Option NodeRec) → Bool
ascend low [] = true
ascend low (c ∷ cs) = nat_le low (c.0).bits && ascend ((c.0).bits + 1) cs

-- above this id, or any for none
abbrev pub IsAfter : Option Nid → ℕ → Type 0
IsAfter None q = Unit {0}
IsAfter (Some nid) q = nid.bits < q

-- the least id of a node above one; or there is none
abbrev pub IsNext : Nodes → Option Nid → Option Nid → Type 0
IsNext N after None = (q : ℕ) → IsAfter after q → node_at N q ≡ None
IsNext N after (Some next) = IsAfter after next.bits × IsSome (node_at N next.bits) × ((q : ℕ) → IsAfter after q → q < next.bits → node_at N q ≡ None)

-- a change is seen at its id, and nowhere else
pub get-set_at : (N : Nodes) (k : ℕ) (w : Option NodeRec) (q : ℕ) → node_at (set_at N k w) q ≡ cond (eq_by_cmp nat_cmp q k) w (node_at N q)
get-set_at N k None q = map.get-remove nat_cmp_total N k q
get-set_at N k (Some node) q = map.get-insert nat_cmp_total N k node q
