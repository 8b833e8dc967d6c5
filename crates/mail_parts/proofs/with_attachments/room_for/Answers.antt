use Rattle.std.proofs.Common.{◌≡◌, ◌∙◌, true, subst}
use Rattle.mapi_values.specs.Messages.{Mes, are_others}
use Rattle.mail_parts.proofs.with_attachments.room_for.Goals as goal

pub returns-clause-others : goal.returns-clause-others
returns-clause-others c = subst (λ (m : Mes). are_others m.parts m.kept ≡ true) (c.message.view_is ∙ c.into_message-message.ensures.message) c.message.invariant.others
