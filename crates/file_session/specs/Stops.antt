-- What a stop comes to: of an opening, and of the plan of a new store.
use Rattle.std.specs.Prelude.{◌≡◌, ◌<◌, true}
use Rattle.pst_outside.specs.World.{Image}
use Rattle.node_port.specs.Stops.{Room}
use Rattle.pst_commit.specs.Keeping.{HasRoom}
use Rattle.node_port.specs.declared.keeper.PrepareStop.{PrepareStop}
use Rattle.node_port.specs.declared.keeper.PrepareStop.TheVariants as prepare
use Rattle.file_session.specs.declared.make.FileMade.{FileMade}
use Rattle.file_session.specs.declared.make.FileMade.TheVariants as made
use Rattle.file_laying.specs.declared.lay.LayingStop.{LayingStop}
use Rattle.file_laying.specs.declared.lay.LayingStop.TheVariants as laying
use Rattle.file_open.specs.declared.stops.FileStop.{FileStop}
use Rattle.file_open.specs.declared.stops.FileStop.TheVariants as stops
use Rattle.mail_transactions.specs.pinned_session.store_session.declared.session.SessionEnd.TheVariants.{Disk, Changed, Memory}
use Rattle.file_session.specs.declared.run.FileRun.{FileRun}
use Rattle.file_session.specs.declared.run.FileRun.TheVariants.{Refused, Ended}

-- for each stop of the opening
abbrev pub unopened : FileStop → FileRun
unopened (stops.Refused refusal) = Refused refusal
unopened stops.Fault = Ended Disk
unopened (stops.Changed ib stored computed) = Ended (Changed ib stored computed)
unopened stops.Memory = Ended Memory

-- the end of a new store whose plan isn't made
abbrev pub of_plan : PrepareStop → FileMade
of_plan prepare.Fault = made.Disk
of_plan (prepare.Changed ib stored computed) = made.Changed ib stored computed
of_plan prepare.Memory = made.Memory
of_plan (prepare.Full free need) = made.Full free need
of_plan prepare.IdsSpent = made.IdsSpent

-- and where no file with its nodes was laid
abbrev pub of_laying : LayingStop → FileMade
of_laying laying.NotEmpty = made.NotEmpty
of_laying laying.Fault = made.Disk
of_laying laying.Memory = made.Memory
of_laying (laying.Unplanned stop) = of_plan stop

-- what the end says of the file without nodes that stands in the image then: it has too few free cells, or no number is left
abbrev pub LacksRoom : Image → FileMade → Type 0
LacksRoom image (made.Full free need) = (has : Room) × HasRoom image has × (free ≡ has.free) × (free < need)
LacksRoom image made.IdsSpent = (has : Room) × HasRoom image has × (has.spent ≡ true)
LacksRoom image other = Unit {0}
