use Rattle.std.proofs.Common.{◌≡◌, ◌^◌, length, min, take}
use Rattle.pst_base.specs.Subs.{flattened}
use Rattle.node_port.specs.Stops.{subs_size}
use Rattle.staged_nodes.proofs.staging.+count_subs.Given as goal

abbrev pub decreases-count_subs : goal.decreases-count_subs
decreases-count_subs l = length l.subs.now

abbrev pub invariant-loop-sub : goal.invariant-loop-sub
invariant-loop-sub l = l.n ≡ min (subs_size (flattened (take l.sub-index l.items))) (2 ^ 60)
