use Rattle.std.proofs.Common.{◌≤◌, ◌-◌, length}
use Rattle.file_world.proofs.part.read_full.Given as goal

abbrev pub decreases-loop-done : goal.decreases-loop-done
decreases-loop-done g l = length l.buf - l.done

abbrev pub invariant-loop-done : goal.invariant-loop-done
invariant-loop-done g l = l.done ≤ length l.buf
