-- What is there unless a test holds, and what a test refuses.
use Rattle.std.proofs.Common.{◌≡◌, Bool, true, false, Option, None, Some, Result, Err, refl, subst, if◌then◌else◌}
use Rattle.command_text.specs.declared.reply.CommandRefusal.{CommandRefusal}
use Rattle.mail_tree.specs.Changing.{Answer, ◌>>=◌, found, refused_if}
use Rattle.mail_draft.specs.declared.stop.Stop.{Stop}
use Rattle.mail_draft.specs.declared.stop.Stop.TheVariants.{Refused}
use Rattle.mail_draft.specs.Answers.{Says}

-- a thing that is there unless a test holds
pub some_where : {X : Type 0} (b : Bool) (x y : X) → Some y ≡ (if b then None else Some x) → (b ≡ false) × (y ≡ x)
some_where true x y e = cc
some_where false x y e = (refl, cc)

-- a test that refuses, and one that doesn't
pub refused_says : {A B : Type 0} (view : B → A) (b : Bool) (refusal : CommandRefusal) (f : Unit {0} → Answer A) → b ≡ true → Says view (refused_if b refusal >>= f) (Err (Refused refusal))
refused_says view true refusal f e = refl
refused_says view false refusal f e = cc

pub passed_says : {A B : Type 0} (view : B → A) (b : Bool) (refusal : CommandRefusal) (f : Unit {0} → Answer A) (result : Result B Stop) → b ≡ false → Says view (f tt) result → Says view (refused_if b refusal >>= f) result
passed_says view true refusal f result e said = cc
passed_says view false refusal f result e said = said

-- a thing that is there, and one that isn't
pub found_says : {A B C : Type 0} (view : B → A) (refusal : CommandRefusal) (o : Option C) (x : C) (f : C → Answer A) (result : Result B Stop) → o ≡ Some x → Says view (f x) result → Says view (found refusal o >>= f) result
found_says view refusal None x f result e said = cc
found_says view refusal (Some y) x f result e said = let is : x ≡ y = cc in subst (λ z. Says view (f z) result) is said

pub missing_says : {A B C : Type 0} (view : B → A) (refusal : CommandRefusal) (o : Option C) (f : C → Answer A) → o ≡ None → Says view (found refusal o >>= f) (Err (Refused refusal))
missing_says view refusal None f e = refl
missing_says view refusal (Some y) f e = cc
