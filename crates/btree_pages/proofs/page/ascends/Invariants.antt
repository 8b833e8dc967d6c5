use Rattle.std.proofs.Common.{◌≡◌, drop}
use Rattle.btree_pages.specs.Pages.{pieces, keys, ascend, rise_above}
use Rattle.btree_pages.proofs.page.ascends.Given as goal

abbrev pub invariant-loop-i : goal.invariant-loop-i
invariant-loop-i g l = let ks = keys g.E.Entry.rule (pieces l.size l.count l.body) in ascend ks ≡ rise_above l.last (drop l.i ks)
