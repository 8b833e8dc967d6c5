use Rattle.std.proofs.Common.{refl}
use Rattle.mail_draft.proofs.Passes.{stop_says, then_says}
use Rattle.mail_folders.proofs.Steps.{stopped}
use Rattle.search_folders.specs.Givens.{given_all}
use Rattle.search_folders.proofs.given.given_all.Goals as goal

pub returns-in_err-flags-clause-answer : goal.returns-in_err-flags-clause-answer
unfolding given_all
returns-in_err-flags-clause-answer c = λ T e. stopped _ _ _ _ c.from_residual.ensures.1 (stop_says _ _ _ _ _ c.in_err-flags.ensures.answer)

pub returns-in_err-restriction-clause-answer : goal.returns-in_err-restriction-clause-answer
unfolding given_all
returns-in_err-restriction-clause-answer c = λ T e.
    stopped _ _ _ _ c.from_residual-in_err-restriction.ensures.1 (then_says _ _ _ _ _ _ c.in_ok-flags.ensures.answer (stop_says _ _ _ _ _ c.in_err-restriction.ensures.answer))

pub returns-in_err-scope-clause-answer : goal.returns-in_err-scope-clause-answer
unfolding given_all
returns-in_err-scope-clause-answer c = λ T e.
    stopped _ _ _ _ c.from_residual-in_err-scope.ensures.1
    (then_says _ _ _ _ _ _ c.in_ok-flags.ensures.answer (then_says _ _ _ _ _ _ c.in_ok-restriction.ensures.answer (stop_says _ _ _ _ _ (c.in_err-scope.ensures.answer T e))))

pub returns-clause-answer : goal.returns-clause-answer
unfolding given_all
returns-clause-answer c = λ T e.
    then_says _ _ _ _ _ _ c.in_ok-flags.ensures.answer (then_says _ _ _ _ _ _ c.in_ok-restriction.ensures.answer (then_says _ _ _ _ _ _ (c.in_ok-scope.ensures.answer T e) refl))
