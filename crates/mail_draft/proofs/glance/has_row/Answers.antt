use Rattle.std.proofs.Common.{Bool}
use Rattle.std.proofs.lemmas.Result.{err_from_is_err_and}
use Rattle.mail_draft.specs.Listed.{has_row}
use Rattle.mail_draft.proofs.Looking.{shown_still}
use Rattle.mail_draft.proofs.Passes.{no_matter}
use Rattle.mail_draft.proofs.glance.has_row.Goals as goal

pub returns-in_err-has-clause-answer : goal.returns-in_err-has-clause-answer
returns-in_err-has-clause-answer g c = λ T s.
    let p = err_from_is_err_and c.from_residual.result c.from_residual.ensures.1 in
    rw (p.1, p.2) (no_matter (λ (b : Bool). b) (has_row T c.args.table.bits c.args.row.bits) c.in_err-has.field-0.0 (c.in_err-has.ensures.answer T s))

pub returns-in-Some-clause-answer : goal.returns-in-Some-clause-answer
returns-in-Some-clause-answer g c = λ T s. rw c.in-Some.is at (c.in_ok-has.ensures.answer T s)

pub returns-clause-answer : goal.returns-clause-answer
returns-clause-answer g c = λ T s. c.row_by_content.ensures.answer T (shown_still T c.in_ok-has.ensures.looks s)
