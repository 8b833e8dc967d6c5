use Rattle.std.proofs.lemmas.Option.{MatchOption-at_some}
use Rattle.std.proofs.lemmas.Result.{err_from_is_err_and}
use Rattle.mail_draft.proofs.Passes.{no_matter}
use Rattle.mail_draft.proofs.StandingLaws.{says-message}
use Rattle.mail_draft.proofs.kept.kept_message.Goals as goal

pub returns-in_err-node-clause-answer : goal.returns-in_err-node-clause-answer
returns-in_err-node-clause-answer g c = λ T s.
    let p = err_from_is_err_and c.from_residual.result c.from_residual.ensures.1 in
    rw (p.1, p.2) (no_matter _ _ c.in_err-node.field-0.0 (c.in_err-node.ensures.answer T s))

pub returns-in-Some-2-clause-answer : goal.returns-in-Some-2-clause-answer
returns-in-Some-2-clause-answer g c = λ T s.
    says-message c.args.nid.bits c.in-Some.node _ _ c.in-Some-2.message
    (rw c.in-Some.is at (c.in_ok-node.ensures.answer T s))
    (MatchOption-at_some _ _ c.in-Some-2.message c.in-Some-2.is c.in_ok-message.ensures)
