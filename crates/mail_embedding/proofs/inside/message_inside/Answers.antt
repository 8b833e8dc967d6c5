use Rattle.std.proofs.Common.{Err, Ok, inl, inr, refl, subst}
use Rattle.std.proofs.lemmas.Result.{err_from_is_err_and}
use Rattle.command_text.specs.declared.reply.CommandRefusal.TheVariants.{Embedded}
use Rattle.embedded_obj.specs.Embedding.{IsInner}
use Rattle.mail_parts.specs.mail_draft.declared.stop.Stop.TheVariants.{Memory, Refused}
use Rattle.mail_embedding.specs.Meant.{attachment_of}
use Rattle.mail_embedding.proofs.Insides.{IsIt, fine_attachment, inside_found, inside_lost, tells}
use Rattle.mail_embedding.proofs.inside.message_inside.Goals as goal

pub returns-in_err-part-clause-answer : goal.returns-in_err-part-clause-answer
returns-in_err-part-clause-answer g c = λ T s w.
    let p = err_from_is_err_and c.from_residual.result c.from_residual.ensures.1 in
    let a = attachment_of T c.args.message.bits c.args.attachment.bits in
    rw (p.1, p.2) (inside_lost a _ IsIt (tells a _ _ (fine_attachment T c.args.message.bits c.args.attachment.bits w) (c.in_err-part.ensures.answer.says T s)))

pub returns-in_err-mail-clause-answer : goal.returns-in_err-mail-clause-answer
returns-in_err-mail-clause-answer g c = λ T s w.
    let p = err_from_is_err_and c.from_residual-in_err-mail.result c.from_residual-in_err-mail.ensures.1 in
    let a = attachment_of T c.args.message.bits c.args.attachment.bits in
    rw (p.1, p.2) (inside_found a c.in_ok-part.part IsIt (Err Memory) (tells a (Ok c.in_ok-part.part) _ (fine_attachment T c.args.message.bits c.args.attachment.bits w) (c.in_ok-part.ensures.answer.says T s)) (inr (inr tt)))

pub returns-in-Some-clause-answer : goal.returns-in-Some-clause-answer
returns-in-Some-clause-answer g c = λ T s w.
    let a = attachment_of T c.args.message.bits c.args.attachment.bits in
    inside_found a c.in_ok-part.part IsIt (Ok c.in-Some.mail) (tells a (Ok c.in_ok-part.part) _ (fine_attachment T c.args.message.bits c.args.attachment.bits w) (c.in_ok-part.ensures.answer.says T s))
    (inl (c.in-Some.mail, subst (IsInner c.in_ok-part.part) c.in-Some.is c.in_ok-mail.ensures, refl))

pub returns-clause-answer : goal.returns-clause-answer
returns-clause-answer g c = λ T s w.
    let a = attachment_of T c.args.message.bits c.args.attachment.bits in
    inside_found a c.in_ok-part.part IsIt (Err (Refused Embedded)) (tells a (Ok c.in_ok-part.part) _ (fine_attachment T c.args.message.bits c.args.attachment.bits w) (c.in_ok-part.ensures.answer.says T s))
    (inr (inl (subst (IsInner c.in_ok-part.part) c.in-None.is c.in_ok-mail.ensures, refl)))
