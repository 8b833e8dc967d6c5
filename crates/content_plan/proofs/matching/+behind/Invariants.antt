use Rattle.std.proofs.Common.{◌≡◌, drop, length, take}
use Rattle.pst_base.specs.Subs.{flattened}
use Rattle.content_plan.proofs.matching.+behind.Given as goal

abbrev pub invariant-loop-sub : goal.invariant-loop-sub
invariant-loop-sub l = l.rest ≡ drop (length (flattened (take l.sub-index l.sub-items))) l.ids

abbrev pub decreases-behind : goal.decreases-behind
decreases-behind l = length l.s.now
