use Rattle.std.proofs.Common.{refl, subst, sym}
use Rattle.std.proofs.lemmas.Result.{err_from_is_err_and}
use Rattle.mail_draft.specs.Drafts.{changed_of}
use Rattle.mail_store.specs.Planning.{IsHindered}
use Rattle.mail_store.proofs.store.plan_outcome.Goals as goal

pub returns-in-Ok-clause-answer : goal.returns-in-Ok-clause-answer
returns-in-Ok-clause-answer g c = λ T s stays. (
  record { reply_is = refl; places_are = refl; flags_are = c.in_ok-flags.ensures.changes; carries = c.in-Ok.ensures.carries T s.shown stays; changes = c.in-Ok.ensures.changes },
  c.in-Ok.ensures.room T s.shown,
)

pub returns-in-Err-clause-answer : goal.returns-in-Err-clause-answer
returns-in-Err-clause-answer g c = λ T s stays. c.in-Err.ensures.hindered T s.shown

pub returns-in_err-flags-clause-answer : goal.returns-in_err-flags-clause-answer
returns-in_err-flags-clause-answer g c =
    let p = err_from_is_err_and c.from_residual.result c.from_residual.ensures.1 in
    rw (p.1, p.2) (λ T s stays. subst (λ stop. IsHindered (g.K.NodeReader.room c.args.store.now.keeper) (changed_of c.args.outcome.draft) stop) (sym c.in_err-flags.ensures.stops) tt)
