use Rattle.std.proofs.Common.{◌≡◌, ℕ, None, Some, refl, sym, subst, ap, ◌∙◌}
use Rattle.std.proofs.lemmas.Option.{none-some, same_Some}
use Rattle.mapi_values.specs.Messages.{Mes}
use Rattle.mail_tree.specs.Changing.{as_message}
use Rattle.mail_tree.specs.Step.{outcome}
use Rattle.mail_tree.specs.Tree.{object_at}
use Rattle.mail_laws.specs.AttachmentLaws.{MirrorsAttachments}
use Rattle.mail_laws.specs.Laws.{message_with}
use Rattle.mail_laws.proofs.Keeping.{if_weaker}
use Rattle.mail_laws.proofs.LawSteps.{is_message}
use Rattle.mail_laws.proofs.PartCommands.{Mirror, mirror_after}
use Rattle.mail_laws.proofs.Starting.{starts_empty}
use Rattle.mail_laws.proofs.attachment.attachments_stay.Goals as goal

pub returns : goal.returns
returns c = record {
  each = λ T c m old w was s.
      let one : ℕ → Type 0 = λ x. x ≡ m in
      let shown : (k : ℕ) (M : Mes) → one k → message_with T k ≡ Some M → MirrorsAttachments M = λ k M e is. subst MirrorsAttachments (same_Some old M (sym was ∙ ap (message_with T) (sym e) ∙ is)) s in
      let fresh : (q : ℕ) → one q → object_at T q ≡ None → (x : ℕ) → one x = λ q e none x. absurd (none-some old (sym (ap as_message none) ∙ ap (message_with T) e ∙ was)) in
      if_weaker (Mirror T w one shown fresh) _ (outcome T c) (mirror_after T w one shown fresh c) (λ o k new is. k m new refl is);
  all = λ T c w s.
      let any : ℕ → Type 0 = λ x. Unit {0} in
      if_weaker (Mirror T w any (λ k M d is. s k M is) (λ q d none x. tt)) _ (outcome T c) (mirror_after T w any (λ k M d is. s k M is) (λ q d none x. tt) c) (λ o k m M is. k m M tt is);
  starts = λ name T s m M is. absurd (starts_empty name T s m M (is_message (object_at T m) M is));
}
