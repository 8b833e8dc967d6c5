-- A table of a desk that is taken, and put again with other rows.
use Rattle.std.proofs.Common.{◌≡◌, ℕ, Bool, true, false, Option, Result, Ok, Err, subst}
use Rattle.command_text.specs.declared.reply.CommandRefusal.{CommandRefusal}
use Rattle.mail_objects.specs.Forms.{Tbl}
use Rattle.mail_objects.specs.declared.object.Object.{Object}
use Rattle.mail_tree.specs.Tree.{Tree}
use Rattle.mail_tree.specs.Changing.{Answer, Changed, ◌>>=◌, refused_if, with_object}
use Rattle.mail_draft.specs.declared.stop.Stop.{Stop}
use Rattle.mail_draft.specs.declared.stop.Stop.TheVariants.{Refused}
use Rattle.mail_draft.specs.Answers.{Says}
use Rattle.mail_draft.specs.Sight.{Answers, Changes, Drafts, SameBeside, Sight}
use Rattle.mail_draft.proofs.Passes.{passes, refuses, then_says}

-- what is put after a table was taken is put into the changes from before
puts_there : {A W : Type 0} {old mid new : Sight A} {t : Tbl} {object object' : Option Object} {result : Result W Stop} (q : ℕ)
    → Drafts {R = Tbl} old mid (Ok t) → SameBeside q old.changed mid.changed → object ≡ object' → Changes mid new (λ T D. Ok (with_object q object D)) result
    → (T : Tree) → old.shows T → Says (λ w. new.changed) (Ok (with_object q object' old.changed)) result
puts_there {old = old} {new = new} {object = object} {result = result} q drafts rest same b T s =
    subst (λ (o : Option Object). Says (λ w. new.changed) (Ok (with_object q o old.changed)) result) same
    (subst (λ (D : Changed). Says (λ w. new.changed) (Ok D) result) (rest object) (b.says T (drafts.shows T s)))

-- a table is taken, and put again as another
pub put_again : {A W : Type 0} {old mid new : Sight A} {t : Tbl} {step : Tree → Changed → Answer Tbl} {object : Option Object} {result : Result W Stop} (q : ℕ) (make : Tbl → Option Object)
    → Answers old (λ (t : Tbl). t) step (Ok t) → Drafts {R = Tbl} old mid (Ok t) → SameBeside q old.changed mid.changed → object ≡ make t → Changes mid new (λ T D. Ok (with_object q object D)) result
    → Changes old new (λ T D. step T D >>= λ t. Ok (with_object q (make t) D)) result
put_again {old = old} {new = new} {t = t} {step = step} {result = result} q make a drafts rest same b = record {
  says = λ T s. then_says (λ (t : Tbl). t) (λ w. new.changed) (step T old.changed) (λ t. Ok (with_object q (make t) old.changed)) t result (a.says T s) (puts_there q drafts rest same b T s);
}

-- so it is where a test of the table passes
pub put_tested : {A W : Type 0} {old mid new : Sight A} {t : Tbl} {step : Tree → Changed → Answer Tbl} {object : Option Object} {result : Result W Stop} (q : ℕ) (test : Tbl → Bool) (refusal : CommandRefusal) (make : Tbl → Option Object)
    → Answers old (λ (t : Tbl). t) step (Ok t) → Drafts {R = Tbl} old mid (Ok t) → SameBeside q old.changed mid.changed → test t ≡ false → object ≡ make t → Changes mid new (λ T D. Ok (with_object q object D)) result
    → Changes old new (λ T D. step T D >>= λ t. refused_if (test t) refusal >>= λ u. Ok (with_object q (make t) D)) result
put_tested {old = old} {new = new} {t = t} {step = step} {result = result} q test refusal make a drafts rest e same b = record {
  says = λ T s. then_says (λ (t : Tbl). t) (λ w. new.changed) (step T old.changed) (λ t. refused_if (test t) refusal >>= λ u. Ok (with_object q (make t) old.changed)) t result (a.says T s)
      (passes (λ w. new.changed) (test t) refusal (λ u. Ok (with_object q (make t) old.changed)) result e (puts_there q drafts rest same b T s));
}

-- and it is refused where it doesn't
pub refused_there : {A W : Type 0} {old new : Sight A} {t : Tbl} {step : Tree → Changed → Answer Tbl} (test : Tbl → Bool) (refusal : CommandRefusal) (f : Changed → Tbl → Answer Changed)
    → Answers old (λ (t : Tbl). t) step (Ok t) → test t ≡ true → Changes {Y = W} old new (λ T D. step T D >>= λ t. refused_if (test t) refusal >>= λ u. f D t) (Err (Refused refusal))
refused_there {W = W} {old = old} {new = new} {t = t} {step = step} test refusal f a e = record {
  says = λ T s. then_says (λ (t : Tbl). t) (λ (w : W). new.changed) (step T old.changed) (λ t. refused_if (test t) refusal >>= λ u. f old.changed t) t (Err (Refused refusal)) (a.says T s)
      (refuses (λ (w : W). new.changed) (test t) refusal (λ u. f old.changed t) e);
}
