use Rattle.mail_tree.specs.Names.{names_in}
use Rattle.mail_draft.proofs.DeskCalls.{answers_exit, answers_of}
use Rattle.mail_names.proofs.reading.names_in.Goals as goal

pub returns-in_err-context-clause-answer : goal.returns-in_err-context-clause-answer
unfolding names_in
returns-in_err-context-clause-answer g c = answers_exit _ c.in_err-context.ensures.answer c.from_residual.ensures.1

pub returns-clause-answer : goal.returns-clause-answer
unfolding names_in
returns-clause-answer g c = answers_of _ _ _ c.in_ok-context.ensures.answer c.names_of.ensures.answer
