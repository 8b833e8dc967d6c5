-- Calls on a desk in a loop.
use Rattle.std.proofs.Common.{◌≡◌, Ok, Err, Result, arith, refl, subst, sym}
use Rattle.std.specs.Result.{IsErrAnd}
use Rattle.mail_tree.specs.Tree.{Tree}
use Rattle.mail_tree.specs.Changing.{Answer, Changed}
use Rattle.mail_draft.specs.declared.stop.Stop.{Stop}
use Rattle.mail_draft.specs.Answers.{IsCaused, Says}
use Rattle.mail_draft.specs.Sight.{Answers, Reads, Sight}

-- no call
pub reads_none : {A : Type 0} (desk : Sight A) → Reads {R = Unit {0}} desk desk (Ok tt)
reads_none desk = record { shows = λ T s. s; changed = refl; disk = refl; faults = omega arith; since = λ f s. s; cause = tt }

-- a call that gave something, whatever it gave
pub reads_ok : {A R S : Type 0} {old new : Sight A} {x : R} (y : S) → Reads {R = R} old new (Ok x) → Reads {R = S} old new (Ok y)
reads_ok y a = record { shows = a.shows; changed = a.changed; disk = a.disk; faults = a.faults; since = a.since; cause = tt }

-- a call's stop is that of the whole
pub reads_exit : {A R S : Type 0} {old new : Sight A} {stop : Stop} (result : Result S Stop) → Reads {R = R} old new (Err stop) → IsErrAnd result (λ e. e ≡ stop) → Reads old new result
reads_exit (Ok x) a is = absurd is
reads_exit {old = old} {new = new} (Err e) a is = record { shows = a.shows; changed = a.changed; disk = a.disk; faults = a.faults; since = a.since; cause = subst (λ (z : Stop). IsCaused old.disk old.faults new.faults z) (sym is) a.cause }

-- what is answered after a call that only looks
pub after_reads : {A R X Y : Type 0} {old mid : Sight A} {first : Result R Stop} {view : Y → X} {step : Tree → Changed → Answer X} {result : Result Y Stop}
    → Reads old mid first → Answers mid view step result → Answers old view step result
after_reads {view = view} {step = step} {result = result} a b = record { says = λ T s. subst (λ D. Says view (step T D) result) a.changed (b.says T (a.shows T s)) }
