use Rattle.std.proofs.Common.{◌∙◌, Some, ap}
use Rattle.mapi_values.specs.Messages.{Mes}
use Rattle.mail_objects.specs.declared.object.Object.TheVariants.{Message}
use Rattle.mail_tree.specs.Changing.{with_object}
use Rattle.mail_messages.specs.Parts.{showing_row}
use Rattle.mail_messages.specs.Pieces.{showing_message}
use Rattle.mail_draft.proofs.DeskCalls.{both_change, changes_at, changes_at3, changes_from, first_exits}
use Rattle.mail_messages.proofs.changes.remade.Goals as goal

pub returns-in_err-props-clause-answer : goal.returns-in_err-props-clause-answer
unfolding showing_message
returns-in_err-props-clause-answer g c =
    let M = c.in_ok-mail.mail in
    changes_at (λ (m : Mes) T D. showing_message T m) c.in_ok-mail.ensures
    (changes_from (λ T D. showing_row T M.folder M.nid M.props (with_object M.nid (Some (Message M)) D)) c.requires.fresh
    (first_exits (λ T. showing_row T M.folder M.nid M.props) c.in_err-props.ensures.put c.from_residual-in_err-props.ensures.1))

pub returns-clause-answer : goal.returns-clause-answer
unfolding showing_message
returns-clause-answer g c =
    let M = c.in_ok-mail.mail in
    let folder = ap (λ (m : Mes). m.folder) (c.behind-mail.view_is ∙ c.message.ensures.message) in
    let nid = ap (λ (m : Mes). m.nid) (c.behind-mail-2.view_is ∙ c.message-2.ensures.message) in
    changes_at (λ (m : Mes) T D. showing_message T m) c.in_ok-mail.ensures
    (changes_from (λ T D. showing_row T M.folder M.nid M.props (with_object M.nid (Some (Message M)) D)) c.requires.fresh
    (both_change (λ T. showing_row T M.folder M.nid M.props) c.in_ok-props.ensures.put c.in_ok-props.ensures.drafts (changes_at3 (λ f m props T. showing_row T f m props) folder nid c.in_ok-props.ensures.props c.showing_row.ensures.answer)))
