use Rattle.std.proofs.Common.{Ok}
use Rattle.command_text.specs.declared.reply.CommandRefusal.TheVariants.{Property}
use Rattle.command_text.specs.declared.reply.LastLine.TheVariants.{Value}
use Rattle.command_text.specs.declared.reply.Reply.{Reply}
use Rattle.mail_draft.proofs.Passes.{then_says}
use Rattle.mail_draft.specs.Outcomes.{outcome_of}
use Rattle.mail_tree.specs.Changing.{found}
use Rattle.mail_tree.specs.Folders.{replied, unchanged}
use Rattle.mail_tree.specs.Messages.{value_of}
use Rattle.mail_messages.specs.Parts.{value_reply}
use Rattle.mail_messages.proofs.Calls.{exits, regroup}
use Rattle.mail_messages.proofs.reading.tell_value.Goals as goal

pub returns-in_err-reply-clause-answer : goal.returns-in_err-reply-clause-answer
returns-in_err-reply-clause-answer c = λ T.
    let tag = c.args.tag in let props = c.args.props.now in
    regroup (outcome_of T) (found Property (value_of tag props)) (λ v. Ok (replied (Value v))) (λ r. Ok (unchanged T r)) _
    (exits (λ (r : Reply). r) (outcome_of T) (value_reply tag props) (λ r. Ok (unchanged T r)) _ _ c.in_err-reply.ensures.answer c.from_residual.ensures.1)

pub returns-clause-answer : goal.returns-clause-answer
returns-clause-answer c = λ T.
    let tag = c.args.tag in let props = c.args.props.now in
    regroup (outcome_of T) (found Property (value_of tag props)) (λ v. Ok (replied (Value v))) (λ r. Ok (unchanged T r)) _
    (then_says (λ (r : Reply). r) (outcome_of T) (value_reply tag props) (λ r. Ok (unchanged T r)) _ _ c.in_ok-reply.ensures.answer (c.unchanged.ensures T))
