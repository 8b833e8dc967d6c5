use Rattle.std.proofs.Common.{◌≡◌, map, drop}
use Rattle.tree_search.specs.Search.{first_from}
use Rattle.tree_search.proofs.search.leaf_from.Given as goal

abbrev pub invariant-loop-i : goal.invariant-loop-i
invariant-loop-i g l = let xs = map g.E.Entry.entry_of l.page.entries in first_from g.E.Entry.key l.low (drop l.start xs) ≡ first_from g.E.Entry.key l.low (drop l.i xs)
