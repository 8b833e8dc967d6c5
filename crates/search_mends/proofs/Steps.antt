-- Steps of an answer, one after another.
use Rattle.std.proofs.Common.{◌≡◌, None, Some, Result, Ok, Err, ap, subst, sym}
use Rattle.mail_tree.specs.Changing.{Answer, ◌>>=◌}
use Rattle.mail_tree.specs.Whole.{Fine}
use Rattle.store_session.specs.mail_draft.Answers.{Says}
use Rattle.store_session.specs.mail_draft.declared.stop.Stop.{Stop}

-- what a call gives goes into the next step, which may hang on that it was given
pub then_given : {A B C D : Type 0} (view : B → A) (view' : D → C) (answer : Answer A) (f : A → Answer C) (y : B) (result : Result D Stop)
    → Says view answer (Ok y) → (answer ≡ Ok (view y) → Says view' (f (view y)) result) → Says view' (answer >>= f) result
then_given view view' (Ok x) f y result said next = subst (λ z. Says view' (f z) result) said (next (ap Ok (sym said)))
then_given view view' (Err None) f y result said next = tt
then_given view view' (Err (Some refusal)) f y result said next = absurd said

-- steps grouped from the right, as steps grouped from the left
pub grouped : {A B C D : Type 0} (view : D → C) (answer : Answer A) (f : A → Answer B) (g : B → Answer C) (result : Result D Stop)
    → Says view (answer >>= λ x. f x >>= g) result → Says view ((answer >>= f) >>= g) result
grouped view (Ok x) f g result said = said
grouped view (Err e) f g result said = said

-- what is said of an answer that is one is the answer
pub told : {A B : Type 0} (P : A → Type 0) (view : B → A) (answer : Answer A) (y : B) → Fine answer P → Says view answer (Ok y) → answer ≡ Ok (view y)
told P view (Ok x) y fine said = ap Ok (sym said)
told P view (Err None) y fine said = absurd fine
told P view (Err (Some refusal)) y fine said = absurd said
