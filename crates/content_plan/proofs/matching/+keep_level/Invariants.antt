use Rattle.std.proofs.Common.{length}
use Rattle.content_plan.proofs.MatchLaws.{Level}
use Rattle.content_plan.proofs.matching.+keep_level.Given as goal

abbrev pub invariant-loop-sub : goal.invariant-loop-sub
invariant-loop-sub l = Level l.next l.fn.old.subs.now l.fn.old.ids.now l.left.subs.now l.left.ids.now l.sub-items l.sub-index l.keep.items

abbrev pub decreases-keep_level : goal.decreases-keep_level
decreases-keep_level l = length l.new.now
