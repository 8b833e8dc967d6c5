use Rattle.mail_tree.specs.Changing.{within_limits}
use Rattle.std.proofs.Common.{refl}
use Rattle.mail_draft.proofs.DeskCalls.{answers_at, comes_exit, comes_then}
use Rattle.search_results.proofs.concluding.if_within.Goals as goal

pub returns-in_err-check_limits-clause-answer : goal.returns-in_err-check_limits-clause-answer
returns-in_err-check_limits-clause-answer g c = comes_exit _ (answers_at (λ n T D. within_limits T n D) c.made_id.ensures c.in_err-check_limits.ensures.answer) c.from_residual.ensures.1

pub returns-clause-answer : goal.returns-clause-answer
returns-clause-answer g c =
    comes_then _ (answers_at (λ n T D. within_limits T n D) c.made_id.ensures c.in_ok-check_limits.ensures.answer) c.in_ok-check_limits.ensures.reads
    (record { says = λ T s. refl; fits = c.in_ok-check_limits.ensures.fits })
