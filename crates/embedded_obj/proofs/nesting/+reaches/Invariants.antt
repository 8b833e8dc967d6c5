use Rattle.std.proofs.Common.{◌≡◌, drop}
use Rattle.pst_base.specs.Subs.{flattened}
use Rattle.embedded_obj.proofs.DepthLaws.{reach}
use Rattle.embedded_obj.proofs.nesting.+reaches.Given as goal

-- those that were looked at stand too high
abbrev pub invariant-loop-sub : goal.invariant-loop-sub
invariant-loop-sub l = reach l.level (flattened (drop l.sub-index l.entries)) ≡ reach l.level (flattened l.entries)

abbrev pub decreases-reaches : goal.decreases-reaches
decreases-reaches l = l.level
