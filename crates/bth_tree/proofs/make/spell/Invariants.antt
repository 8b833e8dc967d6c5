use Rattle.std.proofs.Common.{◌≡◌, ◌++◌, drop}
use Rattle.bth_tree.specs.Making.{spelled}
use Rattle.bth_tree.proofs.make.spell.Given as goal

abbrev pub invariant-loop-record : goal.invariant-loop-record
invariant-loop-record l = l.out.items ++ spelled l.k (drop l.record-index l.recs) ≡ spelled l.k l.recs
