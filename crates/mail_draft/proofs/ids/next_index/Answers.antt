use Rattle.std.proofs.Common.{sym, ◌∙◌}
use Rattle.std.proofs.lemmas.Result.{err_from_is_err_and}
use Rattle.mail_draft.proofs.WalkLaws.{next_is}
use Rattle.mail_draft.proofs.ids.next_index.Goals as goal

pub returns-in_err-greatest-clause-answer : goal.returns-in_err-greatest-clause-answer
returns-in_err-greatest-clause-answer g c =
    let p = err_from_is_err_and c.from_residual.result c.from_residual.ensures.1 in
    rw (p.1, p.2) (λ T s. c.in_err-greatest.ensures.answer T s)

pub returns-clause-answer : goal.returns-clause-answer
returns-clause-answer g c = λ T s.
    next_is T c.args.kind c.args.kinds.now c.counts.result.last _ _ (c.counts.ensures ∙ sym s.counters) c.from.ensures (c.in_ok-greatest.ensures.answer T s)
