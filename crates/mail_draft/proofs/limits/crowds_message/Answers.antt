use Rattle.std.proofs.Common.{◌≡◌, ◌∙◌, ◌||◌, Bool, false, length, sym, ap, rules}
use Rattle.std.specs.List.{list_any}
use Rattle.std.proofs.lemmas.Iterator.{YieldsList-from_slice}
use Rattle.std.proofs.lemmas.Iterator.Search.{any_from_yields_List}
use Rattle.mapi_values.specs.Messages.{Mes}
use Rattle.mail_tree.specs.Changing.{crowds_part}
use Rattle.mail_tree.specs.Values.{crowds}
use Rattle.mail_draft.proofs.limits.crowds_message.Goals as goal

pub returns-else-crowds : goal.returns-else-crowds
returns-else-crowds c =
    let old = c.args.old.now in
    let parts = c.args.mail.now.parts in
    let any = any_from_yields_List (crowds_part old) _ _ c.any.result c.any.ensures.ran (YieldsList-from_slice parts cc) (λ x b q k. search rules) in
    let len : length old.props ≡ c.len.result = sym (c.len.ensures ∙ ap (λ (m : Mes). length m.props) (c.behind-old.view_is ∙ c.message.ensures.message)) in
    let few : crowds old.props c.args.mail.now.props ≡ false =
    sym (c.crowds.ensures old.props len ∙ ap (λ (m : Mes). crowds old.props m.props) (c.message-2.view_is ∙ c.message-message.ensures.message)) ∙ c.if-crowds.false in
    any ∙ sym (ap (λ (b : Bool). b || list_any (crowds_part old) parts) few)
