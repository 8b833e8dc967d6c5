use Rattle.tree_edit.proofs.LookLaws.{Looking}
use Rattle.tree_edit.proofs.look.look_up.Given as goal

abbrev pub invariant-down : goal.invariant-down
invariant-down g l = Looking g.E.Entry.rule g.E.Entry.size g.E.Entry.entry_of g.E.Entry.key (g.S.PageSource.view l.fn.s) (g.S.PageSource.view l.s) l.fn.root l.key l.limit l.at

abbrev pub decreases-down : goal.decreases-down
decreases-down g l = l.limit
