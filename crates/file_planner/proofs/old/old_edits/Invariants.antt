use Rattle.std.proofs.Common.{take}
use Rattle.file_planner.proofs.OldLaws.{Editing}
use Rattle.file_planner.proofs.old.old_edits.Given as goal

abbrev pub invariant-loop-change : goal.invariant-loop-change
invariant-loop-change g l = Editing (g.W.Outside.view l.initial.w) (g.W.Outside.view l.w) l.tree l.initial.cache l.cache l.next (take l.change-index l.changes) l.old.edits.items l.old.left.items
