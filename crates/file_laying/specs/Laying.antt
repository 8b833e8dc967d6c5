-- What a file is that was laid with nodes, and why none was.
use Rattle.std.specs.Prelude.{◌≡◌, ◌<◌, ℕ, true, List, Option}
use Rattle.pst_base.specs.declared.ids.Nid.{Nid}
use Rattle.pst_outside.specs.World.{Image}
use Rattle.file_blocks.specs.Blocks.{file_of}
use Rattle.node_port.specs.declared.node.NodeRec.{NodeRec}
use Rattle.node_port.specs.declared.keeper.PrepareStop.TheVariants as prepare
use Rattle.node_port.specs.Stops.{Room, need}
use Rattle.pst_commit.specs.Keeping.{HasRoom}
use Rattle.empty_file.specs.Known.{IsFoundEmpty}
use Rattle.file_scan.specs.declared.scan.FoundFile.{FoundFile}
use Rattle.empty_file.specs.declared.laying.LayStop.{LayStop}
use Rattle.empty_file.specs.declared.laying.LayStop.TheVariants as lay
use Rattle.file_laying.specs.declared.lay.LayingStop.{LayingStop}
use Rattle.file_laying.specs.declared.lay.LayingStop.TheVariants as stops

-- a stop of the laying of a file without nodes
abbrev pub of_lay : LayStop → LayingStop
of_lay lay.NotEmpty = stops.NotEmpty
of_lay lay.Fault = stops.Fault
of_lay lay.Memory = stops.Memory

-- the file is what a commit made of a file without nodes
pub record IsLaidOver (becomes : List ℕ → List ℕ → Type 0) (image : Image) : Type 0 where
  pub empty : Image
  pub found : FoundFile
  pub is : IsFoundEmpty empty found
  pub becomes_it : becomes (file_of empty) (file_of image)

-- too little room or no number is left in the file without nodes, which stands in the image; and nothing changed there
abbrev pub StopsPlan : Image → ℕ → List (Nid × Option NodeRec) → LayingStop → Type 0
StopsPlan image room cs stops.NotEmpty = Unit {0}
StopsPlan image room cs stops.Fault = Unit {0}
StopsPlan image room cs stops.Memory = Unit {0}
StopsPlan image room cs (stops.Unplanned prepare.Fault) = Unit {0}
StopsPlan image room cs (stops.Unplanned (prepare.Changed ib stored computed)) = ⊥
StopsPlan image room cs (stops.Unplanned prepare.Memory) = Unit {0}
StopsPlan image room cs (stops.Unplanned (prepare.Full free needed)) = (has : Room) × HasRoom image has × (free ≡ has.free) × (needed ≡ need has.pages room cs) × (free < needed)
StopsPlan image room cs (stops.Unplanned prepare.IdsSpent) = (has : Room) × HasRoom image has × (has.spent ≡ true)
