use Rattle.std.proofs.Common.{Option, None, not, ap}
use Rattle.std.specs.Option.{is_some}
use Rattle.command_text.specs.declared.reply.CommandRefusal.TheVariants.{Object}
use Rattle.command_text.specs.declared.reply.LastLine.TheVariants.{Done}
use Rattle.mapi_values.specs.declared.part.Part.{Part}
use Rattle.mail_tree.specs.Messages.{remaking}
use Rattle.mail_tree.specs.Parts.{part_in, without_attachment}
use Rattle.mail_parts.proofs.DeskTests.{comes_passed, comes_refused, comes_remade}
use Rattle.mail_parts.proofs.attachments.detach_one.Goals as goal

pub returns-in-None-clause-answer : goal.returns-in-None-clause-answer
returns-in-None-clause-answer g c =
    let M = c.args.mail in let n = c.args.attachment.bits in
    comes_refused (not (is_some (part_in n M))) Object (λ T u. remaking T (without_attachment n M) None Done) (ap (λ (o : Option Part). not (is_some o)) c.in-None.ensures.taken)

pub returns-in-Some-clause-answer : goal.returns-in-Some-clause-answer
returns-in-Some-clause-answer g c =
    let M = c.args.mail in let n = c.args.attachment.bits in
    comes_passed (not (is_some (part_in n M))) Object (λ T u. remaking T (without_attachment n M) None Done) (ap (λ (o : Option Part). not (is_some o)) c.in-Some.ensures.taken.0)
    (comes_remade c.in-Some.ensures.taken.1 c.done.ensures.reason c.done.ensures.last c.remake_message.ensures.answer)
