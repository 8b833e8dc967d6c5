use Rattle.std.proofs.Common.{◌≡◌, ◌++◌, map, take}
use Rattle.file_layout.proofs.trees.push_leaf.Given as goal

abbrev pub invariant-loop-i : goal.invariant-loop-i
invariant-loop-i g l = l.entries.items ≡ l.initial.entries.items ++ map g.E.Entry.entry_of (take l.i l.page.entries)
