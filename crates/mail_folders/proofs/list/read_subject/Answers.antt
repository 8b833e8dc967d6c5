use Rattle.std.proofs.Common.{◌∙◌, List, Ok, ap}
use Rattle.mapi_values.specs.Messages.{Mes}
use Rattle.mapi_values.specs.Values.{Val}
use Rattle.mail_tree.specs.Values.{text_of}
use Rattle.mail_folders.specs.Pieces.{read_subject}
use Rattle.mail_draft.proofs.DeskCalls.{answers_exit, answers_of, as_at}
use Rattle.mail_folders.proofs.list.read_subject.Goals as goal

pub returns-in_err-mail-clause-answer : goal.returns-in_err-mail-clause-answer
unfolding read_subject
returns-in_err-mail-clause-answer g c = answers_exit _ c.in_err-mail.ensures.answer c.from_residual.ensures.1

pub returns-clause-answer : goal.returns-clause-answer
unfolding read_subject
returns-clause-answer g c =
    let props = ap (λ (m : Mes). m.props) (c.behind-mail.view_is ∙ c.message.ensures.message) in
    answers_of _ (λ (m : Mes). Ok (text_of 0x0037 m.props)) _ c.in_ok-mail.ensures.answer (as_at _ (λ (ps : List Val). Ok (text_of 0x0037 ps)) _ props c.subject_held.ensures.answer)
