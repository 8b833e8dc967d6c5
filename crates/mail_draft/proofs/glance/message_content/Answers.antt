use Rattle.std.proofs.lemmas.Result.{err_from_is_err_and}
use Rattle.mail_draft.proofs.GlanceLaws.{content-message, content-some}
use Rattle.mail_draft.proofs.glance.message_content.Goals as goal

pub returns-in_err-node-clause-answer : goal.returns-in_err-node-clause-answer
returns-in_err-node-clause-answer g c = λ T s.
    let p = err_from_is_err_and c.from_residual.result c.from_residual.ensures.1 in
    rw (p.1, p.2) (λ m here. c.in_err-node.ensures.answer T s)

pub returns-in-Some-clause-answer : goal.returns-in-Some-clause-answer
returns-in-Some-clause-answer g c = λ T s m here.
    let has = rw c.in-Some.is at (c.in_ok-node.ensures.answer T s) in
    content-message c.args.nid.bits c.in-Some.node has.0 _ _ m has.1 has.2 here

pub returns-in-None-clause-answer : goal.returns-in-None-clause-answer
returns-in-None-clause-answer g c = λ T s m here.
    let has = rw c.in-None.is at (c.in_ok-node.ensures.answer T s) in
    absurd (content-some c.args.nid.bits has.0 _ _ m has.1 has.2 here)
