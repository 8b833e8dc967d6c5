use Rattle.std.proofs.Common.{length}
use Rattle.content_plan.specs.Beside.{Passes}
use Rattle.content_plan.proofs.matching.from_id.Given as goal

abbrev pub invariant-loop-sub : goal.invariant-loop-sub
invariant-loop-sub l = Passes l.nid.bits l.fn.old.subs.now l.fn.old.ids.now l.left.subs.now l.left.ids.now

abbrev pub decreases-loop-sub : goal.decreases-loop-sub
decreases-loop-sub l = length l.left.subs.now
