use Rattle.content_plan.proofs.FormLaws.{Forming}
use Rattle.content_plan.proofs.form.+is_form.Given as goal

abbrev pub invariant-loop-sub : goal.invariant-loop-sub
invariant-loop-sub l = Forming l.levels l.low l.subs l.sub-index

abbrev pub decreases-is_form : goal.decreases-is_form
decreases-is_form l = l.levels
