use Rattle.std.proofs.Common.{◌∙◌, sym}
use Rattle.search_results.proofs.TouchLaws.{touches_all, touches_along}
use Rattle.search_results.proofs.Steps.{calm_reads}
use Rattle.search_results.proofs.touched.touched.Goals as goal

pub returns-in-Nothing-clause-answer : goal.returns-in-Nothing-clause-answer
returns-in-Nothing-clause-answer g c = touches_all (sym c.in-Nothing.is ∙ c.form_of.ensures) (record { says = λ T s stood. c.new.ensures.items })

pub returns-in-Made-clause-answer : goal.returns-in-Made-clause-answer
returns-in-Made-clause-answer g c = touches_all (sym c.in-Made.is ∙ c.form_of.ensures) c.made.ensures.answer

pub returns-in-Made-clause-reads : goal.returns-in-Made-clause-reads
returns-in-Made-clause-reads g c = calm_reads _ _ c.made.ensures.cause

pub returns-in-Message-clause-answer : goal.returns-in-Message-clause-answer
returns-in-Message-clause-answer g c = touches_all (sym c.in-Message.is ∙ c.form_of.ensures) (c.touched_message.ensures.answer c.args.coming.now)

pub returns-in-Within-clause-answer : goal.returns-in-Within-clause-answer
returns-in-Within-clause-answer g c = touches_all (sym c.in-Within.is ∙ c.form_of.ensures) (touches_along c.carried_along.ensures.answer)
