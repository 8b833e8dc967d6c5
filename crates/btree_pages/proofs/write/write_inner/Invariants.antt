use Rattle.btree_pages.specs.Entries.{inner_bytes, InnerFits}
use Rattle.btree_pages.proofs.WriteLaws.{Underway}
use Rattle.btree_pages.proofs.write.write_inner.Given as goal

abbrev pub invariant-loop-i : goal.invariant-loop-i
invariant-loop-i g l = Underway inner_bytes InnerFits l.entries l.i l.initial.page l.page
