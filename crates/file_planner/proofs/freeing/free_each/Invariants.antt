use Rattle.std.proofs.Common.{List, Bool, drop}
use Rattle.pst_commit.specs.Held.{opened_of}
use Rattle.file_planner.specs.Freeing.{IsLeft}
use Rattle.file_planner.proofs.freeing.free_each.Given as goal

abbrev pub invariant-loop-place : goal.invariant-loop-place
invariant-loop-place l = (after : List Bool) → IsLeft after l.initial.all (opened_of l.pins) l.places → IsLeft after l.all (opened_of l.pins) (drop l.place-index l.places)
