use Rattle.std.proofs.Common.{◌∙◌, ℕ, Ok, Some, ap}
use Rattle.mapi_values.specs.Messages.{Mes}
use Rattle.mail_objects.specs.declared.object.Object.TheVariants.{Message}
use Rattle.mail_tree.specs.Changing.{with_object}
use Rattle.mail_draft.proofs.DeskCalls.{changes_at, same_stop}
use Rattle.mail_messages.proofs.mails.put_message.Goals as goal

pub returns-in_err-put-clause-put : goal.returns-in_err-put-clause-put
returns-in_err-put-clause-put g c =
    let nid = ap (λ (m : Mes). m.nid) (c.behind-mail.view_is ∙ c.message.ensures.message) in
    same_stop (changes_at (λ (q : ℕ) T D. Ok (with_object q (Some (Message c.args.mail)) D)) nid c.in_err-put.ensures.answer) c.from_residual-in_err-put.ensures.1

pub returns-clause-put : goal.returns-clause-put
returns-clause-put g c = record {
  says = λ T s.
      let nid = ap (λ (m : Mes). m.nid) (c.behind-mail.view_is ∙ c.message.ensures.message) in
      (changes_at (λ (q : ℕ) T D. Ok (with_object q (Some (Message c.args.mail)) D)) nid c.in_ok-put.ensures.answer).says T s;
}
