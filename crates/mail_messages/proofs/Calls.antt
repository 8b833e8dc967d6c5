-- Calls one after another: what the later ones say goes on from what the earlier ones said.
use Rattle.std.proofs.Common.{◌≡◌, Bool, true, false, None, Some, Result, Ok, Err, if◌then◌else◌, sym, ap, subst}
use Rattle.std.specs.Result.{IsErrAnd}
use Rattle.mail_tree.specs.Tree.{Tree}
use Rattle.mail_tree.specs.Changing.{Answer, Changed, ◌>>=◌}
use Rattle.mail_tree.specs.Folders.{Outcome}
use Rattle.mail_draft.specs.declared.coming.Coming.{Coming}
use Rattle.mail_draft.specs.declared.stop.Stop.{Stop}
use Rattle.mail_draft.specs.Answers.{Says}
use Rattle.mail_draft.specs.Desks.{Comes, coming_of}
use Rattle.mail_draft.specs.Sight.{Answers, Changes, Sight}
use Rattle.mail_draft.proofs.DeskCalls.{changes_at, comes_as}
use Rattle.mail_draft.proofs.Passes.{stop_says}

-- the exit of a `?`
pub exits : {A B C D : Type 0} (view : B → A) (view' : D → C) (answer : Answer A) (f : A → Answer C) (stop : Stop) (result : Result D Stop)
    → Says view answer (Err stop) → IsErrAnd result (λ e. e ≡ stop) → Says view' (answer >>= f) result
exits view view' answer f stop (Ok x) first is = absurd is
exits view view' answer f stop (Err e) first is = subst (λ z. Says view' (answer >>= f) (Err z)) (sym is) (stop_says view view' answer f stop first)

-- the same of an equal thing
pub as_at : {X A B : Type 0} (view : B → A) (answer : X → Answer A) (result : Result B Stop) {x x' : X} → x ≡ x' → Says view (answer x) result → Says view (answer x') result
as_at view answer result e said = subst (λ z. Says view (answer z) result) e said

-- steps grouped from the right
pub regroup : {A B C D : Type 0} (view : D → C) (answer : Answer A) (f : A → Answer B) (g : B → Answer C) (result : Result D Stop)
    → Says view ((answer >>= f) >>= g) result → Says view (answer >>= λ x. f x >>= g) result
regroup view (Ok x) f g result said = said
regroup view (Err e) f g result said = said

-- steps grouped from the left
pub ungroup : {A B C D : Type 0} (view : D → C) (answer : Answer A) (f : A → Answer B) (g : B → Answer C) (result : Result D Stop)
    → Says view (answer >>= λ x. f x >>= g) result → Says view ((answer >>= f) >>= g) result
ungroup view (Ok x) f g result said = said
ungroup view (Err e) f g result said = said

-- four steps grouped from the left
pub ungroup3 : {A B C D E : Type 0} (view : E → D) (answer : Answer A) (f : A → Answer B) (g : B → Answer C) (h : C → Answer D) (result : Result E Stop)
    → Says view (answer >>= λ x. f x >>= λ y. g y >>= h) result → Says view (((answer >>= f) >>= g) >>= h) result
ungroup3 view (Ok x) f g h result said = ungroup view (f x) g h result said
ungroup3 view (Err e) f g h result said = said

-- what a call gives goes into the next step, which may use that it is the answer
pub then_is : {A B C D : Type 0} (view : B → A) (view' : D → C) (answer : Answer A) (f : A → Answer C) (y : B) (result : Result D Stop)
    → Says view answer (Ok y) → (answer ≡ Ok (view y) → Says view' (f (view y)) result) → Says view' (answer >>= f) result
then_is view view' (Ok x) f y result first next = subst (λ z. Says view' (f z) result) first (next (ap Ok (sym first)))
then_is view view' (Err None) f y result first next = tt
then_is view view' (Err (Some refusal)) f y result first next = absurd first

-- a call that only looks, by another way to its answer
pub answers_same : {A X Y : Type 0} {desk : Sight A} {view : Y → X} {step step' : Tree → Changed → Answer X} {result : Result Y Stop}
    → ((T : Tree) (D : Changed) → step T D ≡ step' T D) → Answers desk view step result → Answers desk view step' result
answers_same {desk = desk} {view = view} {result = result} e a = record { says = λ T s. subst (λ z. Says view z result) (e T desk.changed) (a.says T s) }

-- what comes of a line, by another way to it
pub comes_same : {A : Type 0} {old new : Sight A} {step step' : Tree → Changed → Answer Outcome} {result : Result Coming Stop}
    → ((T : Tree) (D : Changed) → step T D ≡ step' T D) → Comes old new step result → Comes old new step' result
comes_same {result = result} e a = comes_as (λ T D view said. subst (λ z. Says view z result) (e T D) said) a

-- the same of what comes of a line on a desk
pub comes_regrouped : {A B C : Type 0} {old new : Sight A} {result : Result Coming Stop} (step : Tree → Changed → Answer B) (f : Tree → Changed → B → Answer C) (h : Tree → Changed → C → Answer Outcome)
    → Comes old new (λ T D. (step T D >>= f T D) >>= h T D) result → Comes old new (λ T D. step T D >>= λ x. f T D x >>= h T D) result
comes_regrouped {old = old} {new = new} {result = result} step f h a = record {
  says = λ T s. regroup (coming_of T new.changed) (step T old.changed) (f T old.changed) (h T old.changed) result (a.says T s);
  fits = a.fits;
}

pub comes_ungrouped : {A B C : Type 0} {old new : Sight A} {result : Result Coming Stop} (step : Tree → Changed → Answer B) (f : Tree → Changed → B → Answer C) (h : Tree → Changed → C → Answer Outcome)
    → Comes old new (λ T D. step T D >>= λ x. f T D x >>= h T D) result → Comes old new (λ T D. (step T D >>= f T D) >>= h T D) result
comes_ungrouped {old = old} {new = new} {result = result} step f h a = record {
  says = λ T s. ungroup (coming_of T new.changed) (step T old.changed) (f T old.changed) (h T old.changed) result (a.says T s);
  fits = a.fits;
}

pub comes_ungrouped3 : {A B C E : Type 0} {old new : Sight A} {result : Result Coming Stop} (step : Tree → Changed → Answer B) (f : Tree → B → Answer C) (g : Tree → C → Answer E) (h : Tree → E → Answer Outcome)
    → Comes old new (λ T D. step T D >>= λ x. f T x >>= λ y. g T y >>= h T) result → Comes old new (λ T D. ((step T D >>= f T) >>= g T) >>= h T) result
comes_ungrouped3 {old = old} {new = new} {result = result} step f g h a = record {
  says = λ T s. ungroup3 (coming_of T new.changed) (step T old.changed) (f T) (g T) (h T) result (a.says T s);
  fits = a.fits;
}

-- the same at two equal things
pub changes_at2 : {A X Y R : Type 0} {old new : Sight A} (step : X → Y → Tree → Changed → Answer Changed) {x x' : X} {y y' : Y} {result : Result R Stop}
    → x ≡ x' → y ≡ y' → Changes old new (step x y) result → Changes old new (step x' y') result
changes_at2 step {x} {x'} {y} {y'} e e' a = changes_at (step x') e' (changes_at (λ b. step b y) e a)

-- a test that decides which of two steps is made
pub comes_if : {A : Type 0} {old new : Sight A} {result : Result Coming Stop} (b : Bool) (one other : Tree → Changed → Answer Outcome) → b ≡ true
    → Comes old new one result → Comes old new (λ T D. if b then one T D else other T D) result
comes_if b one other e a = record { says = λ T s. rw e (a.says T s); fits = a.fits }

pub comes_else : {A : Type 0} {old new : Sight A} {result : Result Coming Stop} (b : Bool) (one other : Tree → Changed → Answer Outcome) → b ≡ false
    → Comes old new other result → Comes old new (λ T D. if b then one T D else other T D) result
comes_else b one other e a = record { says = λ T s. rw e (a.says T s); fits = a.fits }
