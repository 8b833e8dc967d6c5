use Rattle.std.proofs.Common.{◌≡◌, length, take}
use Rattle.pst_commit.specs.Held.{IsWithHeld, opened_of}
use Rattle.file_planner.specs.Holding.{AreLong}
use Rattle.file_planner.proofs.held.unite_each.Given as goal

abbrev pub invariant-loop-pin : goal.invariant-loop-pin
invariant-loop-pin l = (length l.all ≡ length l.initial.all) × (AreLong (length l.initial.all) l.pins → IsWithHeld l.initial.all (opened_of (take l.pin-index l.pins)) l.all)
