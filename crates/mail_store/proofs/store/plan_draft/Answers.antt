use Rattle.std.proofs.Common.{refl}
use Rattle.mail_draft.specs.Outcomes.{outcome_of}
use Rattle.mail_store.proofs.store.plan_draft.Goals as goal

pub returns-clause-carries : goal.returns-clause-carries
returns-clause-carries g c = λ T s stays. c.in_ok-ready.ensures.carries T (outcome_of T c.args.outcome.now) s refl refl

pub returns-clause-room : goal.returns-clause-room
returns-clause-room g c = λ T s writes. c.in_ok-ready.ensures.room T s
