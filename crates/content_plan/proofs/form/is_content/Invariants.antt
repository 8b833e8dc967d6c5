use Rattle.content_plan.proofs.FormLaws.{Measured}
use Rattle.content_plan.proofs.form.is_content.Given as goal

abbrev pub invariant-loop-block : goal.invariant-loop-block
invariant-loop-block l = Measured l.blocks l.block-index l.total
