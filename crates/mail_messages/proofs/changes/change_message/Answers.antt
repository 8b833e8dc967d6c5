use Rattle.std.proofs.Common.{Option}
use Rattle.command_text.specs.declared.reply.CommandRefusal.{CommandRefusal}
use Rattle.command_text.specs.declared.reply.LastLine.{LastLine}
use Rattle.command_text.specs.declared.reply.LastLine.TheVariants.{Done}
use Rattle.mail_tree.specs.Messages.{remaking}
use Rattle.mail_draft.proofs.DeskCalls.{comes_at}
use Rattle.mail_messages.proofs.changes.change_message.Goals as goal

pub returns-clause-answer : goal.returns-clause-answer
returns-clause-answer g c =
    comes_at (λ (reason : Option CommandRefusal) T D. remaking T c.args.mail reason Done) c.done.ensures.reason
    (comes_at (λ (last : LastLine) T D. remaking T c.args.mail c.done.result.reason last) c.done.ensures.last c.remake_message.ensures.answer)
