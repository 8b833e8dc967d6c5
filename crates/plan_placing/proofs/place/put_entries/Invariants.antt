use Rattle.std.proofs.Common.{◌≡◌, ◌++◌, take}
use Rattle.plan_drawing.specs.Recounts.{puts_of}
use Rattle.plan_placing.proofs.place.put_entries.Given as goal

abbrev pub invariant-loop-entry : goal.invariant-loop-entry
invariant-loop-entry l = l.edits.items ≡ l.initial.edits.items ++ puts_of (take l.entry-index l.entries)
