-- Calls on a desk, one after another.
use Rattle.std.proofs.Common.{Result, Ok, Err, IfErr, arith, refl, subst}
use Rattle.mail_tree.specs.Changing.{Answer, Changed}
use Rattle.mail_tree.specs.Folders.{Outcome}
use Rattle.mail_tree.specs.Tree.{Tree}
use Rattle.mail_draft.specs.Answers.{IsCalm, IsCaused, Says}
use Rattle.mail_draft.specs.Desks.{Comes, coming_of}
use Rattle.mail_draft.specs.Sight.{Changes, Drafts, Reads, Sight}
use Rattle.mail_draft.specs.declared.coming.Coming.{Coming}
use Rattle.mail_draft.specs.declared.stop.Stop.{Stop}
use Rattle.mail_draft.specs.declared.stop.Stop.TheVariants.{Refused, Fault, Changed as ChangedThere, Memory}

-- no call
pub drafts_none : {A : Type 0} (desk : Sight A) → Drafts {R = Unit {0}} desk desk (Ok tt)
drafts_none desk = record { shows = λ T s. s; disk = refl; faults = omega arith; since = λ f s. s; cause = tt }

-- no call, and a stop that isn't of the disk
pub calm_reads : {A R : Type 0} (desk : Sight A) (result : Result R Stop) → IfErr result IsCalm → Reads desk desk result
calm_reads {R = R} desk result calm = record { shows = λ T s. s; changed = refl; disk = refl; faults = omega arith; since = λ f s. s; cause = caused result calm }
  where
    caused : (r : Result R Stop) → IfErr r IsCalm → IfErr r (IsCaused desk.disk desk.faults desk.faults)
    caused (Ok y) calm = tt
    caused (Err (Refused refusal)) calm = tt
    caused (Err Fault) calm = absurd calm
    caused (Err (ChangedThere ib stored computed)) calm = tt
    caused (Err Memory) calm = tt

-- a call that only looks, and what changes after it
pub changes_after : {A R S : Type 0} {old mid new : Sight A} {first : Result R Stop} {step : Tree → Changed → Answer Changed} {result : Result S Stop}
    → Reads old mid first → Changes mid new step result → Changes old new step result
changes_after {new = new} {step = step} {result = result} a b = record { says = λ T s. subst (λ D. Says (λ w. new.changed) (step T D) result) a.changed (b.says T (a.shows T s)) }

-- and what comes after it
pub comes_after : {A R : Type 0} {old mid new : Sight A} {first : Result R Stop} {step : Tree → Changed → Answer Outcome} {result : Result Coming Stop}
    → Reads old mid first → Comes mid new step result → Comes old new step result
comes_after {new = new} {step = step} {result = result} a b = record { says = λ T s. subst (λ D. Says (coming_of T new.changed) (step T D) result) a.changed (b.says T (a.shows T s)); fits = b.fits }

-- a call that gave something, whatever it gave
pub drafts_ok : {A R S : Type 0} {old new : Sight A} {x : R} (y : S) → Drafts {R = R} old new (Ok x) → Drafts {R = S} old new (Ok y)
drafts_ok y a = record { shows = a.shows; disk = a.disk; faults = a.faults; since = a.since; cause = tt }
