use Rattle.std.proofs.Common.{◌≡◌, ◌++◌, drop}
use Rattle.data_tree.specs.Plan.{spelled, listing, bids_in}
use Rattle.data_tree.proofs.plan.listing.Given as goal

abbrev pub invariant-loop-block : goal.invariant-loop-block
invariant-loop-block l = l.out.items ++ spelled (bids_in (drop l.block-index l.blocks)) ≡ listing l.level l.total (bids_in l.blocks)
