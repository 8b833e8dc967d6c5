use Rattle.std.proofs.Common.{◌∙◌, ap}
use Rattle.mapi_values.specs.Messages.{Mes}
use Rattle.mail_messages.specs.Parts.{adding_row}
use Rattle.mail_draft.proofs.DeskCalls.{both_change, changes_at3, first_exits}
use Rattle.mail_messages.proofs.adding.add_message.Goals as goal

pub returns-in_err-props-clause-answer : goal.returns-in_err-props-clause-answer
returns-in_err-props-clause-answer g c = first_exits (λ T. adding_row T c.args.mail.folder c.args.mail.nid c.args.mail.props) c.in_err-props.ensures.put c.from_residual.ensures.1

pub returns-clause-answer : goal.returns-clause-answer
returns-clause-answer g c =
    let folder = ap (λ (m : Mes). m.folder) (c.behind-mail.view_is ∙ c.message.ensures.message) in
    let nid = ap (λ (m : Mes). m.nid) (c.behind-mail-2.view_is ∙ c.message-2.ensures.message) in
    both_change (λ T. adding_row T c.args.mail.folder c.args.mail.nid c.args.mail.props) c.in_ok-props.ensures.put c.in_ok-props.ensures.drafts (changes_at3 (λ f m props T. adding_row T f m props) folder nid c.in_ok-props.ensures.props c.add_row.ensures.answer)
