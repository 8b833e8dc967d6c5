use Rattle.std.proofs.Common.{◌≡◌, ◌∙◌, ◌||◌, Bool, false, sym, ap, rules}
use Rattle.std.specs.List.{list_any}
use Rattle.std.proofs.lemmas.Iterator.{YieldsList-from_slice}
use Rattle.std.proofs.lemmas.Iterator.Search.{any_from_yields_List}
use Rattle.mapi_values.specs.Messages.{Mes}
use Rattle.mapi_values.specs.declared.part.Part.{Part}
use Rattle.mail_tree.specs.Values.{is_crowded}
use Rattle.mail_draft.proofs.limits.is_crowded_message.Goals as goal

pub returns-else-is_crowded : goal.returns-else-is_crowded
returns-else-is_crowded c =
    let parts = c.args.mail.now.parts in
    let any = any_from_yields_List (λ (part : Part). is_crowded part.props) _ _ c.any.result c.any.ensures.ran (YieldsList-from_slice parts cc) (λ x b q k. search rules) in
    let few : is_crowded c.args.mail.now.props ≡ false =
    sym (c.is_crowded.ensures ∙ ap (λ (m : Mes). is_crowded m.props) (c.message.view_is ∙ c.message-message.ensures.message)) ∙ c.if-is_crowded.false in
    any ∙ sym (ap (λ (b : Bool). b || list_any (λ (part : Part). is_crowded part.props) parts) few)
