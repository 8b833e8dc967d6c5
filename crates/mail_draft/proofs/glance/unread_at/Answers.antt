use Rattle.std.proofs.Common.{◌==◌, ◌%◌, ℕ, Bool, Ok, Err, not, ap}
use Rattle.std.proofs.lemmas.Result.{err_from_is_err_and}
use Rattle.mapi_values.specs.Messages.{Mes}
use Rattle.mail_tree.specs.Changing.{as_message}
use Rattle.mail_tree.specs.Tree.{object_at}
use Rattle.mail_tree.specs.Values.{is_read}
use Rattle.mail_draft.proofs.GlanceLaws.{says-where}
use Rattle.mail_draft.proofs.glance.unread_at.Goals as goal

pub returns-in_err-flags-clause-answer : goal.returns-in_err-flags-clause-answer
returns-in_err-flags-clause-answer g c = λ T s.
    let p = err_from_is_err_and c.from_residual-in_err-flags.result c.from_residual-in_err-flags.ensures.1 in
    rw (p.1, p.2)
    (says-where (λ (b : Bool). b) (as_message (object_at T c.args.nid.bits)) (λ (m : Mes). Ok (not (is_read m.props))) (Err c.in_err-flags.field-0.0)
    (λ m here. c.in_err-flags.ensures.told m (c.in_ok-node.ensures.answer T s m here)))

pub returns-in_err-flags-clause-cause : goal.returns-in_err-flags-clause-cause
returns-in_err-flags-clause-cause g c =
    let p = err_from_is_err_and c.from_residual-in_err-flags.result c.from_residual-in_err-flags.ensures.1 in
    rw (p.1, p.2) (c.in_err-flags.ensures.cause _ _ _)

pub returns-clause-answer : goal.returns-clause-answer
returns-clause-answer g c = λ T s.
    says-where (λ (b : Bool). b) (as_message (object_at T c.args.nid.bits)) (λ (m : Mes). Ok (not (is_read m.props))) (Ok (not (c.number_told.result % 2 == 1)))
    (λ m here. ap (λ (n : ℕ). not (n % 2 == 1)) (c.number_told.ensures 0x0E07 m.props (c.in_ok-flags.ensures.told m (c.in_ok-node.ensures.answer T s m here))))
