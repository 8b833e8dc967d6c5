-- What a call says, from what the calls say that it makes.
use Rattle.std.proofs.Common.{◌≡◌, None, Some, Result, Ok, Err, Bool, true, false, refl, subst}
use Rattle.command_text.specs.declared.reply.CommandRefusal.{CommandRefusal}
use Rattle.mail_tree.specs.Changing.{Answer, ◌>>=◌, refused_if}
use Rattle.mail_draft.specs.declared.stop.Stop.{Stop}
use Rattle.mail_draft.specs.declared.stop.Stop.TheVariants.{Refused, Fault, Changed, Memory}
use Rattle.mail_draft.specs.Answers.{IsNoMatter, Says}

-- no matter of the tree is no matter of any answer
pub no_matter : {A B : Type 0} (view : B → A) (answer : Answer A) (stop : Stop) → IsNoMatter stop → Says view answer (Err stop)
no_matter view (Ok x) stop h = h
no_matter view (Err None) stop h = tt
no_matter view (Err (Some refusal)) (Refused given) h = absurd h
no_matter view (Err (Some refusal)) Fault h = tt
no_matter view (Err (Some refusal)) (Changed ib stored computed) h = absurd h
no_matter view (Err (Some refusal)) Memory h = tt

-- what a call gives goes into the next step
pub then_says : {A B C D : Type 0} (view : B → A) (view' : D → C) (answer : Answer A) (f : A → Answer C) (y : B) (result : Result D Stop)
    → Says view answer (Ok y) → Says view' (f (view y)) result → Says view' (answer >>= f) result
then_says view view' (Ok x) f y result first then = subst (λ z. Says view' (f z) result) first then
then_says view view' (Err None) f y result first then = tt
then_says view view' (Err (Some refusal)) f y result first then = absurd first

-- a call's stop is that of the whole
pub stop_says : {A B C D : Type 0} (view : B → A) (view' : D → C) (answer : Answer A) (f : A → Answer C) (stop : Stop)
    → Says view answer (Err stop) → Says view' (answer >>= f) (Err stop)
stop_says view view' (Ok x) f stop first = no_matter view' (f x) stop first
stop_says view view' (Err None) f stop first = tt
stop_says view view' (Err (Some refusal)) f stop first = first

-- a test that passes
pub passes : {C D : Type 0} (view : D → C) (b : Bool) (refusal : CommandRefusal) (f : Unit {0} → Answer C) (result : Result D Stop)
    → b ≡ false → Says view (f tt) result → Says view (refused_if b refusal >>= f) result
passes view true refusal f result e then = cc
passes view false refusal f result e then = then

-- a test that doesn't
pub refuses : {C D : Type 0} (view : D → C) (b : Bool) (refusal : CommandRefusal) (f : Unit {0} → Answer C)
    → b ≡ true → Says view (refused_if b refusal >>= f) (Err (Refused refusal))
refuses view true refusal f e = refl
refuses view false refusal f e = cc
