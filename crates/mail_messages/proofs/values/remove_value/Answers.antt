use Rattle.std.proofs.Common.{None}
use Rattle.command_text.specs.declared.reply.LastLine.TheVariants.{Done}
use Rattle.mapi_values.specs.Messages.{Mes}
use Rattle.mail_tree.specs.Messages.{changed_message, remaking}
use Rattle.mail_messages.specs.Parts.{may_unset}
use Rattle.mail_draft.proofs.DeskCalls.{comes_at, comes_exit, comes_then, told}
use Rattle.mail_draft.proofs.DeskLoops.{reads_none, reads_ok}
use Rattle.mail_messages.proofs.values.remove_value.Goals as goal

pub returns-in_err-check_unset-clause-answer : goal.returns-in_err-check_unset-clause-answer
returns-in_err-check_unset-clause-answer g c = comes_exit _ (told (λ (u : Unit {0}). u) (may_unset c.args.tag c.args.mail.props) _ c.in_err-check_unset.ensures.answer) c.from_residual.ensures.1

pub returns-clause-answer : goal.returns-clause-answer
unfolding changed_message
returns-clause-answer g c =
    comes_then _ (told (λ (u : Unit {0}). u) (may_unset c.args.tag c.args.mail.props) _ c.in_ok-check_unset.ensures.answer) (reads_ok _ (reads_none _))
    (comes_at (λ (m : Mes) T D. remaking T m None Done) c.without_value-changed.ensures c.change_message.ensures.answer)
