use Rattle.btree_pages.proofs.WriteLaws.{Underway}
use Rattle.btree_pages.proofs.write.write_leaf.Given as goal

abbrev pub invariant-loop-i : goal.invariant-loop-i
invariant-loop-i g l = Underway g.E.Entry.bytes g.E.Entry.fits l.entries l.i l.initial.page l.page
