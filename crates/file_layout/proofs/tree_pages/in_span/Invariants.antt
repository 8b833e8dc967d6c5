use Rattle.std.proofs.Common.{◌≡◌, drop}
use Rattle.btree_pages.specs.Pages.{keys}
use Rattle.file_layout.specs.Trees.{in_span}
use Rattle.file_layout.proofs.tree_pages.in_span.Given as goal

abbrev pub invariant-loop-i : goal.invariant-loop-i
invariant-loop-i g l = let ks = keys g.E.Entry.rule l.page.entries in in_span l.low l.high ks ≡ in_span l.low l.high (drop l.i ks)
