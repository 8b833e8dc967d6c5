-- How much changes put.
use Rattle.std.specs.Prelude.{ℕ, ◌+◌, List, [], ◌∷◌, length, Option, None, Some}
use Rattle.std.specs.FinMap as map
use Rattle.pst_base.specs.declared.ids.Nid.{Nid}
use Rattle.node_port.specs.Stops.{subs_size}
use Rattle.node_port.specs.declared.keeper.PrepareStop.{PrepareStop}
use Rattle.node_port.specs.declared.keeper.PrepareStop.TheVariants as prepare
use Rattle.node_port.specs.declared.node.NodeRec.{NodeRec}
use Rattle.staged_nodes.specs.Staged.{Staged}

-- how much a transaction puts at most
abbrev pub MOST_STAGED : ℕ
MOST_STAGED = 16384

-- how many data blocks and subnodes a node that is put has, and itself
abbrev pub one_node : Option NodeRec → ℕ
one_node None = 0
one_node (Some node) = 1 + length node.blocks + subs_size node.subs

-- the same of a node that was changed, or of none that was
abbrev pub one_changed : Option (Option NodeRec) → ℕ
one_changed None = 0
one_changed (Some node) = one_node node

-- how much of what is put already is of the nodes of further changes
abbrev pub replaced : Staged → List (Nid × Option NodeRec) → ℕ
replaced F [] = 0
replaced F (c ∷ cs) = one_changed (map.get F (c.0).bits) + replaced F cs

-- neither did a disk fail, nor did something change
abbrev pub IsCalm : PrepareStop → Type 0
IsCalm (prepare.Full free need) = Unit {0}
IsCalm prepare.IdsSpent = Unit {0}
IsCalm prepare.Fault = ⊥
IsCalm (prepare.Changed ib stored computed) = ⊥
IsCalm prepare.Memory = Unit {0}
