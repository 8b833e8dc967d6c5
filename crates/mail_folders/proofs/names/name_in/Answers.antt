use Rattle.std.proofs.Common.{◌∙◌, Ok, ap}
use Rattle.mail_tree.specs.mail_objects.Forms.{Ctx}
use Rattle.mail_tree.specs.Values.{name_of}
use Rattle.mail_folders.specs.Pieces.{name_in}
use Rattle.mail_draft.proofs.DeskCalls.{answers_exit, answers_of}
use Rattle.mail_folders.proofs.names.name_in.Goals as goal

pub returns-in_err-context-clause-answer : goal.returns-in_err-context-clause-answer
unfolding name_in
returns-in_err-context-clause-answer g c = answers_exit _ c.in_err-context.ensures.answer c.from_residual.ensures.1

pub returns-clause-answer : goal.returns-clause-answer
unfolding name_in
returns-clause-answer g c = answers_of _ (λ (x : Ctx). Ok (name_of x.props)) _ c.in_ok-context.ensures.answer (c.in_ok-name_of.ensures ∙ ap name_of c.props.ensures)
