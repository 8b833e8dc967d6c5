use Rattle.std.proofs.Common.{◌≡◌, ◌^◌, length, min, take}
use Rattle.pst_base.specs.Subs.{flattened}
use Rattle.write_limits.specs.Space.{kept_space}
use Rattle.write_limits.proofs.sums.+kept_space.Given as goal

abbrev pub decreases-kept_space : goal.decreases-kept_space
decreases-kept_space l = length l.subs.now

-- the total is that of the subnodes so far
abbrev pub invariant-loop-sub : goal.invariant-loop-sub
invariant-loop-sub l = l.total ≡ min (kept_space (flattened (take l.sub-index l.items))) (2 ^ 60)
