-- Why calls in turn stop.
use Rattle.std.proofs.Common.{ℕ, ◌≤◌, arith}
use Rattle.pst_base.specs.declared.stops.MemOr.{MemOr}
use Rattle.pst_base.specs.declared.stops.MemOr.TheVariants.{Memory, Refused}
use Rattle.pst_base.specs.declared.stops.SourceStop.{SourceStop}
use Rattle.pst_base.specs.declared.stops.SourceStop.TheVariants.{Changed, Failed}
use Rattle.pst_outside.specs.World.{World}
use Rattle.pst_outside.specs.Calls.{Rose, Untouched}
use Rattle.file_pages.specs.Told.{StopsUnless}
use Rattle.node_port.specs.declared.keeper.KeepStop.{KeepStop}
use Rattle.node_port.specs.declared.keeper.KeepStop.TheVariants as keep
use Rattle.node_store.specs.Told.{StopsKeeping}

rose-later : (a b c : ℕ) → a ≤ b → Rose b c → Rose a c
rose-later a b c le rose = omega (arith, le, rose)

-- a stop of a later call
pub unless-later : (first mid new : World) (Whole Then : Type 0) → Untouched first mid → (Whole → Then) → (stop : MemOr SourceStop) → StopsUnless mid new Then stop → StopsUnless first new Whole stop
unless-later first mid new Whole Then same on Memory stops = tt
unless-later first mid new Whole Then same on (Refused Failed) stops = rose-later first.disk_faults mid.disk_faults new.disk_faults same.counts.disk_faults stops
unless-later first mid new Whole Then same on (Refused (Changed ib stored computed)) stops = λ whole. stops (on whole)

pub keeping-later : (first mid new : World) (Whole Then : Type 0) → Untouched first mid → (Whole → Then) → (stop : KeepStop) → StopsKeeping mid new Then stop → StopsKeeping first new Whole stop
keeping-later first mid new Whole Then same on keep.Fault stops = rose-later first.disk_faults mid.disk_faults new.disk_faults same.counts.disk_faults stops
keeping-later first mid new Whole Then same on (keep.Changed ib stored computed) stops = λ whole. stops (on whole)
keeping-later first mid new Whole Then same on keep.Memory stops = tt
