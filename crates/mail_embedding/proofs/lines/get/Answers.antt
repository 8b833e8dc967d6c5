use Rattle.std.proofs.Common.{Err, Ok}
use Rattle.std.proofs.lemmas.Result.{err_from_is_err_and}
use Rattle.command_text.specs.declared.reply.Reply.{Reply}
use Rattle.mapi_values.specs.Messages.{Mes}
use Rattle.mail_tree.specs.Changing.{◌>>=◌}
use Rattle.mail_parts.specs.mail_messages.Parts.{value_reply}
use Rattle.mail_parts.proofs.mail_draft_laws.Passes.{stop_says}
use Rattle.mail_embedding.specs.Meant.{Tells, attachment_of}
use Rattle.mail_embedding.specs.declared.meaning.Meaning.{Meaning}
use Rattle.mail_embedding.specs.declared.meaning.Meaning.TheVariants.{Replies}
use Rattle.mail_embedding.proofs.Insides.{fine_reply, inside_next, tells}
use Rattle.mail_embedding.proofs.lines.get.Goals as goal

pub returns-in_err-reply-clause-answer : goal.returns-in_err-reply-clause-answer
returns-in_err-reply-clause-answer g c = λ T s w.
    let p = err_from_is_err_and c.from_residual-in_err-reply.result c.from_residual-in_err-reply.ensures.1 in
    let a = attachment_of T c.args.message.bits c.args.attachment.bits in
    let tag = c.args.tag in
    rw (p.1, p.2) (inside_next a c.in_ok-mail.mail (λ part (e : Mes). Tells (value_reply tag e.props >>= λ r. Ok (Replies r))) (Err c.in_err-reply.field-0.0) (c.in_ok-mail.ensures.answer T s w)
    (λ part shows. tells _ _ _ (fine_reply tag c.in_ok-mail.mail.props) (stop_says (λ (r : Reply). r) (λ (m : Meaning). m) (value_reply tag c.in_ok-mail.mail.props) (λ r. Ok (Replies r)) _ c.in_err-reply.ensures.answer)))
