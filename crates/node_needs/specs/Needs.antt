-- How long a file must be so that nodes are read in it.
use Rattle.std.specs.Prelude.{◌≡◌, ℕ, ◌*◌, max, List, [], ◌∷◌, length, Option, Ok}
use Rattle.pst_base.specs.declared.ids.Bid.{Bid}
use Rattle.pst_base.specs.Flat.{Flat}
use Rattle.pst_base.specs.declared.stops.MemOr.{MemOr}
use Rattle.pst_base.specs.declared.stops.MemOr.TheVariants.{Memory, Refused}
use Rattle.btree_pages.specs.declared.entry.NodeEntry.{NodeEntry}
use Rattle.data_tree.specs.declared.source.TreeStop.{TreeStop}
use Rattle.data_tree.specs.declared.source.TreeStop.TheVariants.{Source as BySource}
use Rattle.data_tree.specs.Measure.{bytes_in}
use Rattle.data_tree.specs.Source.{Source, StoppedBy}
use Rattle.subnode_tree.specs.Subnodes.{subs_of}
use Rattle.file_layout.specs.Nodes.{Node, node_at}

-- how many bytes the longest data of some subnodes has
abbrev pub longest : List Flat → ℕ
longest [] = 0
longest (f ∷ fs) = max (bytes_in f.blocks) (longest fs)

-- no subnode's data is longer than the file, and the file has 24 bytes for each
abbrev pub need_of_subs : List Flat → ℕ
need_of_subs subs = max (longest subs) (24 * length subs)

-- and no node's data is
abbrev pub need_of : Node → ℕ
need_of n = max (bytes_in n.blocks) (need_of_subs n.subs)

-- what the most demanding of some nodes needs
abbrev pub needs : List Node → ℕ
needs [] = 0
needs (n ∷ ns) = max (need_of n) (needs ns)

-- a stop of a reading of a node's need: by its source, or for memory; no other comes where the source tells a node
abbrev pub StopsNeed : {A : Type 0} → MemOr TreeStop → Source A → Source A → NodeEntry → Type 0
StopsNeed Memory old new e = Unit {0}
StopsNeed (Refused (BySource stop)) old new e = StoppedBy old new stop
StopsNeed (Refused stop) old new e = (find : ℕ → Option (List ℕ)) (n : Node) → old.holds find → node_at find old.eof e ≡ Ok n → ⊥

-- the same of the subnodes alone
abbrev pub StopsSubs : {A : Type 0} → MemOr TreeStop → Source A → Source A → Bid → Type 0
StopsSubs Memory old new bid = Unit {0}
StopsSubs (Refused (BySource stop)) old new bid = StoppedBy old new stop
StopsSubs (Refused stop) old new bid = (find : ℕ → Option (List ℕ)) (fs : List Flat) → old.holds find → subs_of find old.eof bid ≡ Ok fs → ⊥
