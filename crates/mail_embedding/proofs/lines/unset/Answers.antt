use Rattle.std.proofs.Common.{Err, Ok}
use Rattle.std.proofs.lemmas.Result.{err_from_is_err_and}
use Rattle.mapi_values.specs.Messages.{Mes}
use Rattle.mapi_values.specs.declared.part.Part.{Part}
use Rattle.embedded_obj.specs.Embedding.{unset_inside}
use Rattle.mail_embedding.specs.Meant.{IsPut, Puts, attachment_of}
use Rattle.mail_embedding.specs.declared.meaning.Meaning.TheVariants.{Becomes}
use Rattle.mail_embedding.proofs.Insides.{fine_unset, inside_next, puts_it, puts_lost, tells}
use Rattle.mail_embedding.proofs.lines.unset.Goals as goal

pub returns-in_err-changed-clause-answer : goal.returns-in_err-changed-clause-answer
returns-in_err-changed-clause-answer g c = λ T s w.
    let p = err_from_is_err_and c.from_residual-in_err-changed.result c.from_residual-in_err-changed.ensures.1 in
    let a = attachment_of T c.args.message.bits c.args.attachment.bits in let m = c.args.message in let n = c.args.attachment in
    rw (p.1, p.2) (inside_next a c.in_ok-mail.mail (λ (part : Part) (e : Mes). Puts (unset_inside c.args.tag e) (IsPut m n part)) (Err c.in_err-changed.field-0.0) (c.in_ok-mail.ensures.answer T s w)
    (λ part shows. puts_lost (unset_inside c.args.tag c.in_ok-mail.mail) _ (IsPut m n part) (tells _ _ _ (fine_unset c.args.tag c.in_ok-mail.mail) c.in_err-changed.ensures.answer)))

pub returns-clause-answer : goal.returns-clause-answer
returns-clause-answer g c = λ T s w.
    let a = attachment_of T c.args.message.bits c.args.attachment.bits in let m = c.args.message in let n = c.args.attachment in
    inside_next a c.in_ok-mail.mail (λ (part : Part) (e : Mes). Puts (unset_inside c.args.tag e) (IsPut m n part)) (Ok (Becomes c.in_ok-command.command)) (c.in_ok-mail.ensures.answer T s w)
    (λ part shows. puts_it (unset_inside c.args.tag c.in_ok-mail.mail) c.in_ok-changed.changed c.in_ok-command.command (IsPut m n part) (tells _ (Ok c.in_ok-changed.changed) _ (fine_unset c.args.tag c.in_ok-mail.mail) c.in_ok-changed.ensures.answer)
    (c.in_ok-command.ensures part c.in_ok-mail.mail shows c.in_ok-changed.ensures.place.0 c.in_ok-changed.ensures.place.1))
