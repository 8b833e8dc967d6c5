use Rattle.mail_tree.specs.Messages.{given_message, new_message}
use Rattle.mail_messages.specs.Parts.{may_give}
use Rattle.mail_draft.proofs.DeskCalls.{comes_exit, comes_then, told}
use Rattle.mail_draft.proofs.DeskLoops.{reads_none, reads_ok}
use Rattle.mail_messages.proofs.making.new_message.Goals as goal

pub returns-in_err-check_given-clause-answer : goal.returns-in_err-check_given-clause-answer
unfolding new_message
returns-in_err-check_given-clause-answer g c =
    comes_exit _ (told (λ (u : Unit {0}). u) (may_give c.args.values.now) _ c.in_err-check_given.ensures.answer) c.from_residual.ensures.1

pub returns-clause-answer : goal.returns-clause-answer
unfolding new_message
returns-clause-answer g c =
    comes_then _ (told (λ (u : Unit {0}). u) (may_give c.args.values.now) _ c.in_ok-check_given.ensures.answer) (reads_ok _ (reads_none _)) c.given_message.ensures.answer
