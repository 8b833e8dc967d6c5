-- Stops of a look, for those of a keeper.
use Rattle.std.specs.Prelude.{ℕ, ◌%◌, ◌==◌, Option, None, Some, Result, Ok, Err, if◌then◌else◌}
use Rattle.pst_base.specs.declared.ids.Nid.{Nid}
use Rattle.pst_base.specs.declared.stops.MemOr.{MemOr}
use Rattle.pst_base.specs.declared.stops.MemOr.TheVariants as or_memory
use Rattle.mail_objects.specs.declared.message.fault.MessageFault.{MessageFault}
use Rattle.mail_tree.specs.declared.places.Sort.{Sort}
use Rattle.mail_tree.specs.declared.places.Sort.TheVariants.{Plain, Foreign}
use Rattle.tree_look.specs.declared.stops.LookRefusal.TheVariants.{Node, Tree}
use Rattle.tree_look.specs.declared.stops.TreeFault.TheVariants.{Missing}
use Rattle.node_port.specs.declared.keeper.KeepStop.{KeepStop}
use Rattle.node_port.specs.declared.keeper.KeepStop.TheVariants as keep
use Rattle.tree_look.specs.declared.stops.LookStop.{LookStop}
use Rattle.tree_look.specs.declared.stops.LookStop.TheVariants as stops

-- the stop for one of a keeper
abbrev pub stop_of : KeepStop → LookStop
stop_of keep.Fault = stops.Fault
stop_of (keep.Changed ib stored computed) = stops.Changed ib stored computed
stop_of keep.Memory = stops.Memory

-- of which sort a folder with this id is
abbrev pub sort_with : ℕ → Option Sort
sort_with q = if q % 32 == 2 then Some Plain else (if q % 32 == 3 then Some Foreign else None)

-- a plain folder is missed, a search folder isn't named where its node isn't there
abbrev pub missed : Nid → Sort → Result (Option Sort) LookStop
missed row Plain = Err (stops.Refused (Tree row Missing))
missed row Foreign = Ok None

-- the stop where the node at an id couldn't be read as what it should be
abbrev pub formless : Nid → MemOr MessageFault → LookStop
formless nid or_memory.Memory = stops.Memory
formless nid (or_memory.Refused fault) = stops.Refused (Node nid fault)
