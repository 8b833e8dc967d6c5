use Rattle.std.proofs.Common.{◌≡◌, ◌++◌, drop}
use Rattle.data_tree.specs.Keys.{keys_of}
use Rattle.data_tree.specs.Plan.{bids_in}
use Rattle.content_plan.proofs.put.block_keys.Given as goal

abbrev pub invariant-loop-block : goal.invariant-loop-block
invariant-loop-block l = l.keys.items ++ keys_of (bids_in (drop l.block-index l.blocks)) ≡ keys_of (bids_in l.blocks)
