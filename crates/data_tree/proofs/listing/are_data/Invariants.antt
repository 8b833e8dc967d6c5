use Rattle.std.proofs.Common.{◌≡◌, drop}
use Rattle.data_tree.specs.Tree.{are_data}
use Rattle.data_tree.proofs.listing.are_data.Given as goal

abbrev pub invariant-loop-bid : goal.invariant-loop-bid
invariant-loop-bid l = are_data (drop l.bid-index l.bids) ≡ are_data l.bids
