-- Stops of an opening, for those of its parts.
use Rattle.file_layout.specs.declared.stops.OpenStop.{OpenStop}
use Rattle.file_layout.specs.declared.stops.OpenStop.TheVariants as scans
use Rattle.node_port.specs.declared.keeper.KeepStop.TheVariants as keep
use Rattle.store_open.specs.declared.stops.TreeStop.{TreeStop}
use Rattle.store_open.specs.declared.stops.TreeStop.TheVariants as trees
use Rattle.file_open.specs.declared.stops.FileRefusal.TheVariants.{Scan, Tree}
use Rattle.file_open.specs.declared.stops.FileStop.{FileStop}
use Rattle.file_open.specs.declared.stops.FileStop.TheVariants.{Refused, Fault, Changed, Memory}

-- the stop for one of the scan
abbrev pub of_scan : OpenStop → FileStop
of_scan (scans.Refused refusal) = Refused (Scan refusal)
of_scan scans.Fault = Fault
of_scan (scans.Changed ib stored computed) = Changed ib stored computed
of_scan scans.Memory = Memory

-- the stop for one of the opening of nodes
abbrev pub of_tree : TreeStop → FileStop
of_tree (trees.Refused refusal) = Refused (Tree refusal)
of_tree (trees.Kept keep.Fault) = Fault
of_tree (trees.Kept (keep.Changed ib stored computed)) = Changed ib stored computed
of_tree (trees.Kept keep.Memory) = Memory
