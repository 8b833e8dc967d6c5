use Rattle.std.proofs.Common.{◌≡◌, take}
use Rattle.pst_outside.specs.Replay.{Disk, stable, part_of, replay}
use Rattle.pst_outside.specs.Memory.{state_of}
use Rattle.pst_outside.proofs.crash.outcome.Given as goal

-- the events so far were followed
abbrev pub invariant-loop-event : goal.invariant-loop-event
invariant-loop-event l = (disk : Disk) → stable l.first ≡ part_of l.part disk → state_of l.replayed ≡ part_of l.part (replay disk (take l.event-index l.events))
