use Rattle.std.proofs.Common.{◌≡◌, ◌++◌, drop}
use Rattle.data_tree.specs.Keys.{keys_of}
use Rattle.data_tree.proofs.keys.keys_of.Given as goal

abbrev pub invariant-loop-bid : goal.invariant-loop-bid
invariant-loop-bid l = l.keys.items ++ keys_of (drop l.bid-index l.bids) ≡ keys_of l.bids
