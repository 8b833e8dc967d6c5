use Rattle.std.proofs.Common.{◌^◌, drop}
use Rattle.std.specs.Prelude.{◌↔◌}
use Rattle.tree_edit.specs.Edits.{AreEdits}
use Rattle.tree_edit.proofs.edits.are_edits.Given as goal

abbrev pub invariant-loop-i : goal.invariant-loop-i
invariant-loop-i g l = AreEdits g.E.Entry.key l.least (2 ^ 64) (drop l.i l.edits) ↔ AreEdits g.E.Entry.key 0 (2 ^ 64) l.edits
