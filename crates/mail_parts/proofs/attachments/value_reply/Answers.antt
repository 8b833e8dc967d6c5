use Rattle.command_text.specs.declared.reply.LastLine.TheVariants.{Value}
use Rattle.command_text.specs.declared.reply.CommandRefusal.TheVariants.{Property}
use Rattle.mail_tree.specs.Changing.{found}
use Rattle.mail_tree.specs.Folders.{replied, unchanged}
use Rattle.mail_tree.specs.Messages.{value_of}
use Rattle.mail_tree.specs.Parts.{data_tag}
use Rattle.mail_draft.specs.Outcomes.{outcome_of}
use Rattle.mail_messages.specs.Parts.{telling_value}
use Rattle.mail_parts.proofs.DeskTests.{reply_alone, stops_too}
use Rattle.mail_parts.proofs.attachments.value_reply.Goals as goal

pub returns-in_err-told-clause-answer : goal.returns-in_err-told-clause-answer
returns-in_err-told-clause-answer c = λ T. stops_too (outcome_of T) (unchanged T) (telling_value T data_tag c.args.props.now) _ _ (c.in_err-told.ensures.answer T) c.from_residual.ensures.1

pub returns-clause-answer : goal.returns-clause-answer
returns-clause-answer c = λ T. reply_alone T (found Property (value_of data_tag c.args.props.now)) (λ v. replied (Value v)) c.in_ok-told.told (c.in_ok-told.ensures.answer T)
