use Rattle.std.proofs.Common.{◌-◌, ◌≤◌, length}
use Rattle.tree_edit.proofs.CutLaws.{AreUpTo}
use Rattle.tree_edit.proofs.descent.count_up_to.Given as goal

abbrev pub invariant-loop-n : goal.invariant-loop-n
invariant-loop-n g l = record { within : l.n ≤ length l.edits; under : AreUpTo l.high l.n l.edits }

abbrev pub decreases-loop-n : goal.decreases-loop-n
decreases-loop-n g l = length l.edits - l.n
