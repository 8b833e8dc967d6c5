use Rattle.content_plan.proofs.LoopLaws.{Planned}
use Rattle.content_plan.proofs.plan.plan_contents.Given as goal

abbrev pub invariant-loop-change : goal.invariant-loop-change
invariant-loop-change g l = Planned (g.W.Outside.view l.initial.w) (g.W.Outside.view l.w) l.header l.initial.caches l.caches l.next l.free l.changes l.change-index l.plan
