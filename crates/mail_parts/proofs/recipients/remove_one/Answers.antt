use Rattle.std.proofs.Common.{not}
use Rattle.command_text.specs.declared.reply.CommandRefusal.TheVariants.{Object}
use Rattle.mail_tree.specs.Changing.{refused_if}
use Rattle.mail_tree.specs.Parts.{has_recipient}
use Rattle.mail_draft.proofs.DeskCalls.{comes_exit, comes_then, told}
use Rattle.mail_draft.proofs.DeskLoops.{reads_none, reads_ok}
use Rattle.mail_parts.proofs.DeskTests.{comes_remade}
use Rattle.mail_parts.proofs.recipients.remove_one.Goals as goal

pub returns-in_err-check_recipient-clause-answer : goal.returns-in_err-check_recipient-clause-answer
returns-in_err-check_recipient-clause-answer g c =
    comes_exit _ (told (λ (u : Unit {0}). u) (refused_if (not (has_recipient c.args.row c.args.mail)) Object) _ c.in_err-check_recipient.ensures.answer) c.from_residual.ensures.1

pub returns-clause-answer : goal.returns-clause-answer
returns-clause-answer g c =
    comes_then _ (told (λ (u : Unit {0}). u) (refused_if (not (has_recipient c.args.row c.args.mail)) Object) _ c.in_ok-check_recipient.ensures.answer) (reads_ok _ (reads_none _))
    (comes_remade c.without_recipient-mail.ensures c.done.ensures.reason c.done.ensures.last c.remake_message.ensures.answer)
