use Rattle.tree_search.proofs.SearchLaws.{Onward}
use Rattle.tree_search.proofs.search.+find_below.Given as goal

abbrev pub decreases-find_below : goal.decreases-find_below
decreases-find_below g l = l.most

abbrev pub invariant-loop-i : goal.invariant-loop-i
invariant-loop-i g l = Onward g.E.Entry.rule g.E.Entry.size g.E.Entry.entry_of g.E.Entry.key (g.S.PageSource.view l.fn.s) (g.S.PageSource.view l.s) l.fn.most l.fn.at l.low l.page l.i
