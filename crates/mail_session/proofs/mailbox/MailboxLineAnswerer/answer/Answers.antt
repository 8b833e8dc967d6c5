use Rattle.std.proofs.Common.{◌∙◌, IfErr, false, refl, subst, sym}
use Rattle.file_filling.specs.store_session.Carrying.{IsCaused}
use Rattle.mail_session.specs.Mailboxes.{nowhere_view}
use Rattle.mail_session.proofs.MailboxLaws.{Carried, line_answered, line_stopped}
use Rattle.mail_session.proofs.mailbox.MailboxLineAnswerer.answer.Goals as goal

pub returns-in-Ok-clause-answers : goal.returns-in-Ok-clause-answers
returns-in-Ok-clause-answers g c =
    let a = c.args.self.now in
    let s = c.in-Some.session in
    let t = c.answer_line-session.result.0 in
    let m = c.answer_line-session.new.world in
    let bytes = c.args.line.now in
    (line_answered a.session s t a.nowhere m bytes c.in-Ok.spoken (sym (sym c.in-Some.is ∙ c.take.ensures.value)) (subst (λ r. Carried s a.nowhere t m bytes r) c.in-Ok.is c.answer_line-session.ensures.carries), refl)

pub returns-in-Err-clause-answers : goal.returns-in-Err-clause-answers
returns-in-Err-clause-answers g c =
    let a = c.args.self.now in
    let s = c.in-Some.session in
    let t = c.answer_line-session.result.0 in
    let m = c.answer_line-session.new.world in
    let bytes = c.args.line.now in
    let cause = subst (λ r. IfErr r (IsCaused false (nowhere_view a.nowhere) (nowhere_view m))) c.in-Err.is c.answer_line-session.ensures.cause in (
      (λ S sits. absurd (line_stopped a.session s t a.nowhere m bytes c.in-Err.field-0 (sym (sym c.in-Some.is ∙ c.take.ensures.value)) (subst (λ r. Carried s a.nowhere t m bytes r) c.in-Err.is c.answer_line-session.ensures.carries) cause S sits)),
      refl,
    )
