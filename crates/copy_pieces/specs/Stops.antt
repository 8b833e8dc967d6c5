-- Why no copy was made.
use Rattle.std.specs.Prelude.{◌≡◌, ℕ, List, Option, Ok}
use Rattle.pst_outside.specs.World.{World}
use Rattle.btree_pages.specs.declared.entry.BlockEntry.{BlockEntry}
use Rattle.btree_pages.specs.declared.entry.NodeEntry.{NodeEntry}
use Rattle.pst_base.specs.declared.stops.MemOr.{MemOr}
use Rattle.pst_base.specs.declared.stops.MemOr.TheVariants as or_memory
use Rattle.pst_base.specs.declared.stops.SourceStop.TheVariants as sources
use Rattle.pst_base.specs.declared.stops.SourceStop.TheVariants.{Failed}
use Rattle.data_tree.specs.declared.source.TreeStop.{TreeStop}
use Rattle.data_tree.specs.declared.source.TreeStop.TheVariants.{Source as BySource}
use Rattle.file_blocks.specs.Stops.{Holds}
use Rattle.file_layout.specs.declared.stops.OpenStop.{OpenStop}
use Rattle.file_layout.specs.declared.stops.OpenStop.TheVariants as opens
use Rattle.file_layout.specs.Nodes.{AreNodes, Node, node_at}
use Rattle.copy_pieces.specs.declared.stops.CompactStop.{CompactStop}
use Rattle.copy_pieces.specs.declared.stops.CompactStop.TheVariants.{Changed, Fault, Large, Memory}

-- a stop of the making of a copy but for its size: the disk's, want of memory, or that something isn't as it was found, which never comes over a world that tells
abbrev pub StopsCopy : CompactStop → World → Type 0
StopsCopy Fault new = Unit {0}
StopsCopy Memory new = Unit {0}
StopsCopy (Changed ib stored computed) new = new.tells → ⊥
StopsCopy (Large eof) new = ⊥

-- a stop of a look at a node; one that isn't the source's is that the node isn't as it was found
abbrev pub look_stop : MemOr TreeStop → CompactStop
look_stop or_memory.Memory = Memory
look_stop (or_memory.Refused (BySource Failed)) = Fault
look_stop (or_memory.Refused (BySource (sources.Changed ib stored computed))) = Changed ib stored computed
look_stop (or_memory.Refused stop) = Changed 0 0 0

-- a stop of the reading of a tree that was whole
abbrev pub tree_stop : OpenStop → CompactStop
tree_stop opens.Fault = Fault
tree_stop opens.Memory = Memory
tree_stop (opens.Changed ib stored computed) = Changed ib stored computed
tree_stop (opens.Refused refusal) = Changed 0 0 0

-- the same of one node
abbrev pub StopsNode : CompactStop → World → ℕ → List BlockEntry → NodeEntry → Type 0
StopsNode Fault old eof blocks node = Unit {0}
StopsNode Memory old eof blocks node = Unit {0}
StopsNode (Changed ib stored computed) old eof blocks node = (find : ℕ → Option (List ℕ)) (n : Node) → Holds old eof blocks find → node_at find eof node ≡ Ok n → ⊥
StopsNode (Large end) old eof blocks node = ⊥

-- a stop of a look at nodes that were read: the disk's, want of memory, or a change, which never comes where they are told
abbrev pub StopsLook : CompactStop → World → ℕ → List BlockEntry → List NodeEntry → Type 0
StopsLook Fault old eof blocks nodes = Unit {0}
StopsLook Memory old eof blocks nodes = Unit {0}
StopsLook (Changed ib stored computed) old eof blocks nodes = (find : ℕ → Option (List ℕ)) (are : List Node) → Holds old eof blocks find → AreNodes find eof nodes are → ⊥
StopsLook (Large end) old eof blocks nodes = ⊥
