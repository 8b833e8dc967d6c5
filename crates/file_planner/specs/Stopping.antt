-- Why a plan stops, and how much is new.
use Rattle.std.specs.Prelude.{ℕ, ◌+◌, length, Option, None, Some}
use Rattle.node_port.specs.declared.node.NodeRec.{NodeRec}
use Rattle.node_port.specs.Stops.{subs_size}
use Rattle.node_port.specs.declared.keeper.KeepStop.{KeepStop}
use Rattle.node_port.specs.declared.keeper.KeepStop.TheVariants as keep
use Rattle.node_port.specs.declared.keeper.PrepareStop.{PrepareStop}
use Rattle.node_port.specs.declared.keeper.PrepareStop.TheVariants as prepare

-- a stop of a reading, as a plan gives it
abbrev pub prepare_stop : KeepStop → PrepareStop
prepare_stop keep.Fault = prepare.Fault
prepare_stop (keep.Changed ib stored computed) = prepare.Changed ib stored computed
prepare_stop keep.Memory = prepare.Memory

-- the stop is for want of room or of numbers
abbrev pub IsRoomStop : PrepareStop → Type 0
IsRoomStop (prepare.Full free needed) = Unit {0}
IsRoomStop prepare.IdsSpent = Unit {0}
IsRoomStop prepare.Fault = ⊥
IsRoomStop (prepare.Changed ib stored computed) = ⊥
IsRoomStop prepare.Memory = ⊥

-- how many data blocks and subnodes a node that is put has, and itself
abbrev pub one_node : Option NodeRec → ℕ
one_node None = 0
one_node (Some node) = 1 + length node.blocks + subs_size node.subs
