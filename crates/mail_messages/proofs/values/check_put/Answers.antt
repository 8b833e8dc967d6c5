use Rattle.mail_messages.specs.Parts.{may_set}
use Rattle.mail_draft.proofs.DeskCalls.{answers_exit, answers_then, told}
use Rattle.mail_draft.proofs.DeskLoops.{reads_none, reads_ok}
use Rattle.mail_messages.proofs.values.check_put.Goals as goal

pub returns-in_err-check_set-clause-answer : goal.returns-in_err-check_set-clause-answer
returns-in_err-check_set-clause-answer g c = answers_exit _ (told (λ (u : Unit {0}). u) (may_set c.args.id c.args.mail.now.props) _ c.in_err-check_set.ensures.answer) c.from_residual.ensures.1

pub returns-clause-answer : goal.returns-clause-answer
returns-clause-answer g c =
    answers_then _ (told (λ (u : Unit {0}). u) (may_set c.args.id c.args.mail.now.props) _ c.in_ok-check_set.ensures.answer) (reads_ok _ (reads_none _)) c.check_named.ensures.answer
