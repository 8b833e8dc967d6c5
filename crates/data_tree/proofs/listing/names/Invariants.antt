use Rattle.std.proofs.Common.{◌≡◌, ◌+◌, ◌-◌, ◌*◌, ◌++◌, drop}
use Rattle.pst_base.specs.Fields.{number_at}
use Rattle.data_tree.specs.Tree.{ids, names_of}
use Rattle.data_tree.proofs.listing.names.Given as goal

abbrev pub invariant-loop-i : goal.invariant-loop-i
invariant-loop-i l = l.bids.items ++ ids (number_at 2 2 l.b - l.i) (drop (8 + 8 * l.i) l.b) ≡ names_of l.b
