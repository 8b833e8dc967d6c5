use Rattle.std.proofs.Common.{sym}
use Rattle.command_text.specs.declared.reply.CommandRefusal.TheVariants.{Object}
use Rattle.mapi_values.specs.declared.part.Part.{Part}
use Rattle.mail_tree.specs.Folders.{unchanged}
use Rattle.mail_tree.specs.Parts.{data_tag, part_in}
use Rattle.mail_messages.specs.Parts.{telling_value}
use Rattle.mail_parts.proofs.Tests.{found_says, missing_says}
use Rattle.mail_parts.proofs.attachments.data_reply.Goals as goal

pub returns-in-Some-clause-answer : goal.returns-in-Some-clause-answer
returns-in-Some-clause-answer c = λ T.
    found_says (unchanged T) Object (part_in c.args.attachment.bits c.args.mail.now) c.in-Some.part.now (λ (part : Part). telling_value T data_tag part.props) _ (sym c.in-Some.ensures) (c.value_reply.ensures.answer T)

pub returns-in-None-clause-answer : goal.returns-in-None-clause-answer
returns-in-None-clause-answer c = λ T.
    missing_says (unchanged T) Object (part_in c.args.attachment.bits c.args.mail.now) (λ (part : Part). telling_value T data_tag part.props) (sym c.in-None.ensures)
