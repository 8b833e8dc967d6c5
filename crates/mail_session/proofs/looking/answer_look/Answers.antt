use Rattle.std.proofs.Common.{Err, Ok, refl}
use Rattle.tree_look.proofs.mail_draft_laws.Looking.{untouched_same}
use Rattle.command_text.specs.declared.reply.CommandRefusal.TheVariants.{Line}
use Rattle.session_lines.specs.declared.line.SessionLine.TheVariants.{Pin, At, Unpin, OpenView, ShowView, CloseView, Embedded, Command as StoreCommand}
use Rattle.mail_session.proofs.LookingLaws.{answers_if, lacks_line, refusal_answers}
use Rattle.mail_session.proofs.looking.answer_look.Goals as goal

pub returns-in-Ok-Command-clause-answers : goal.returns-in-Ok-Command-clause-answers
returns-in-Ok-Command-clause-answers g c = answers_if _ _ (g.W.Outside.view c.args.world.now) _ c.args.bytes.now (Ok (StoreCommand c.in-Ok-Command.command)) (rw c.in-Ok-Command.field-0-is at c.in-Ok-Command.ensures) c.answer_command.result c.answer_command.ensures.says

pub returns-in-Ok-Embedded-clause-answers : goal.returns-in-Ok-Embedded-clause-answers
returns-in-Ok-Embedded-clause-answers g c = answers_if _ _ (g.W.Outside.view c.args.world.now) _ c.args.bytes.now (Ok (Embedded c.in-Ok-Embedded.line)) (rw c.in-Ok-Embedded.field-0-is at c.in-Ok-Embedded.ensures) c.answer_inside.result c.answer_inside.ensures.says

pub returns-in-Ok-Pin-clause-answers : goal.returns-in-Ok-Pin-clause-answers
returns-in-Ok-Pin-clause-answers g c = refusal_answers _ (untouched_same (g.W.Outside.view c.args.world.now)) c.args.bytes.now (Ok Pin) (rw c.in-Ok-Pin.field-0-is at c.in-Ok-Pin.ensures) Line c.refusal_spoken.result (λ X e. e) c.refusal_spoken.ensures

pub returns-in-Ok-At-clause-answers : goal.returns-in-Ok-At-clause-answers
returns-in-Ok-At-clause-answers g c = refusal_answers _ (untouched_same (g.W.Outside.view c.args.world.now)) c.args.bytes.now (Ok (At c.in-Ok-At.field-0-0 c.in-Ok-At.field-0-1)) (rw c.in-Ok-At.field-0-is at c.in-Ok-At.ensures) Line c.refusal_spoken-in-Ok-At.result (λ X e. e) c.refusal_spoken-in-Ok-At.ensures

pub returns-in-Ok-Unpin-clause-answers : goal.returns-in-Ok-Unpin-clause-answers
returns-in-Ok-Unpin-clause-answers g c = refusal_answers _ (untouched_same (g.W.Outside.view c.args.world.now)) c.args.bytes.now (Ok (Unpin c.in-Ok-Unpin.field-0-0)) (rw c.in-Ok-Unpin.field-0-is at c.in-Ok-Unpin.ensures) Line c.refusal_spoken-in-Ok-Unpin.result (λ X e. e) c.refusal_spoken-in-Ok-Unpin.ensures

pub returns-in-Ok-OpenView-clause-answers : goal.returns-in-Ok-OpenView-clause-answers
returns-in-Ok-OpenView-clause-answers g c = refusal_answers _ (untouched_same (g.W.Outside.view c.args.world.now)) c.args.bytes.now (Ok (OpenView c.in-Ok-OpenView.field-0-0 c.in-Ok-OpenView.field-0-1 c.in-Ok-OpenView.field-0-2)) (rw c.in-Ok-OpenView.field-0-is at c.in-Ok-OpenView.ensures) Line c.refusal_spoken-in-Ok-OpenView.result (λ X e. e) c.refusal_spoken-in-Ok-OpenView.ensures

pub returns-in-Ok-ShowView-clause-answers : goal.returns-in-Ok-ShowView-clause-answers
returns-in-Ok-ShowView-clause-answers g c = refusal_answers _ (untouched_same (g.W.Outside.view c.args.world.now)) c.args.bytes.now (Ok (ShowView c.in-Ok-ShowView.field-0-0 c.in-Ok-ShowView.field-0-1)) (rw c.in-Ok-ShowView.field-0-is at c.in-Ok-ShowView.ensures) Line c.refusal_spoken-in-Ok-ShowView.result (λ X e. e) c.refusal_spoken-in-Ok-ShowView.ensures

pub returns-in-Ok-CloseView-clause-answers : goal.returns-in-Ok-CloseView-clause-answers
returns-in-Ok-CloseView-clause-answers g c = refusal_answers _ (untouched_same (g.W.Outside.view c.args.world.now)) c.args.bytes.now (Ok (CloseView c.in-Ok-CloseView.field-0-0)) (rw c.in-Ok-CloseView.field-0-is at c.in-Ok-CloseView.ensures) Line c.refusal_spoken-in-Ok-CloseView.result (λ X e. e) c.refusal_spoken-in-Ok-CloseView.ensures

pub returns-in-Err-Refused-clause-answers : goal.returns-in-Err-Refused-clause-answers
returns-in-Err-Refused-clause-answers g c = refusal_answers _ (untouched_same (g.W.Outside.view c.args.world.now)) c.args.bytes.now (Err c.in-Err-Refused.field-0-0) (rw c.in-Err-Refused.field-0-is at c.in-Err-Refused.ensures) Line c.refusal_spoken-in-Err-Refused.result (λ X e. e) c.refusal_spoken-in-Err-Refused.ensures

pub returns-clause-answers : goal.returns-clause-answers
returns-clause-answers g c = lacks_line _ (untouched_same (g.W.Outside.view c.args.world.now)) c.args.bytes.now _ refl

pub returns-clause-same : goal.returns-clause-same
returns-clause-same g c = untouched_same (g.W.Outside.view c.args.world.now)
