use Rattle.std.proofs.Common.{List}
use Rattle.mapi_values.specs.Values.{Val}
use Rattle.mail_tree.specs.mail_objects.Forms.{Ctx}
use Rattle.mail_tree.specs.Folders.{unless_protected}
use Rattle.mail_folders.specs.Pieces.{unless_special}
use Rattle.mail_draft.proofs.DeskCalls.{answers_exit, answers_of, as_at}
use Rattle.mail_folders.proofs.protecting.unless_protected.Goals as goal

pub returns-in_err-store-clause-answer : goal.returns-in_err-store-clause-answer
unfolding unless_protected
returns-in_err-store-clause-answer g c = answers_exit _ c.in_err-store.ensures.answer c.from_residual.ensures.1

pub returns-clause-answer : goal.returns-clause-answer
unfolding unless_protected
returns-clause-answer g c =
    let f = c.args.folder.bits in
    answers_of _ (λ (x : Ctx). unless_special f x.props) _ c.in_ok-store.ensures.answer (as_at _ (λ (props : List Val). unless_special f props) _ c.props.ensures c.unless_special.ensures.answer)
