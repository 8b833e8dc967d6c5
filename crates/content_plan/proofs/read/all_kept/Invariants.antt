use Rattle.std.proofs.Common.{◌≡◌, ◌++◌, Some, drop, map}
use Rattle.content_plan.proofs.read.all_kept.Given as goal

abbrev pub invariant-loop-bid : goal.invariant-loop-bid
invariant-loop-bid l = l.kept.items ++ map Some (drop l.bid-index l.bids) ≡ map Some l.bids
