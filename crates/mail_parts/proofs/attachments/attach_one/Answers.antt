use Rattle.command_text.specs.declared.reply.CommandRefusal.TheVariants.{Limit}
use Rattle.command_text.specs.declared.reply.Limit.TheVariants.{Rows}
use Rattle.mail_tree.specs.Changing.{refused_if}
use Rattle.mail_tree.specs.Parts.{is_full}
use Rattle.mail_draft.proofs.DeskCalls.{comes_exit, comes_then, told}
use Rattle.mail_draft.proofs.DeskLoops.{reads_none, reads_ok}
use Rattle.mail_parts.proofs.attachments.attach_one.Goals as goal

pub returns-in_err-check_room-clause-answer : goal.returns-in_err-check_room-clause-answer
returns-in_err-check_room-clause-answer g c =
    comes_exit _ (told (λ (u : Unit {0}). u) (refused_if (is_full c.args.mail.attachments) (Limit Rows)) _ c.in_err-check_room.ensures.answer) c.from_residual.ensures.1

pub returns-clause-answer : goal.returns-clause-answer
returns-clause-answer g c =
    comes_then _ (told (λ (u : Unit {0}). u) (refused_if (is_full c.args.mail.attachments) (Limit Rows)) _ c.in_ok-check_room.ensures.answer) (reads_ok _ (reads_none _)) c.attach_to.ensures.answer
