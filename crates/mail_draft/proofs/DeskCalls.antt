-- Calls on a desk, one after another.
use Rattle.std.proofs.Common.{None, Some, ◌≡◌, ◌≤◌, ◌∙◌, ℕ, Bool, true, false, List, Result, Ok, Err, refl, sym, ap, subst, arith, IfErr}
use Rattle.std.specs.Prelude.{OnOk}
use Rattle.std.specs.Result.{IsErrAnd}
use Rattle.command_text.specs.declared.reply.CommandRefusal.{CommandRefusal}
use Rattle.command_text.specs.declared.reply.Reply.{Reply}
use Rattle.mail_tree.specs.declared.places.FolderPlace.{FolderPlace}
use Rattle.mail_tree.specs.Tree.{Tree}
use Rattle.mail_tree.specs.Changing.{Answer, Changed, ◌>>=◌, nothing, refused_if}
use Rattle.mail_tree.specs.Folders.{Outcome, unchanged}
use Rattle.mail_draft.specs.declared.coming.Coming.{Coming}
use Rattle.mail_draft.specs.declared.stop.Stop.{Stop}
use Rattle.mail_draft.specs.declared.stop.Stop.TheVariants.{Refused, Fault, Changed as ChangedThere, Memory}
use Rattle.mail_draft.specs.Answers.{IsCaused, IsNoMatter, IsRefusal, Says}
use Rattle.mail_draft.proofs.FitLaws.{nothing-fits}
use Rattle.mail_draft.proofs.Passes.{passes, refuses, stop_says, then_says}
use Rattle.mail_draft.specs.Sight.{Answers, Changes, Drafts, IsAbout, Reads, Sight}
use Rattle.mail_draft.specs.Desks.{Comes, coming_of}

-- a stop of a later call
later : (disk disk' : Bool) (before mid after : ℕ) (stop : Stop) → disk' ≡ disk → before ≤ mid → IsCaused disk' mid after stop → IsCaused disk before after stop
later disk disk' before mid after (Refused refusal) same le cause = tt
later disk disk' before mid after Fault same le cause = (omega (arith, le, cause.0), sym same ∙ cause.1)
later disk disk' before mid after (ChangedThere ib stored computed) same le cause = tt
later disk disk' before mid after Memory same le cause = tt

later_if : {R : Type 0} (disk disk' : Bool) (before mid after : ℕ) (result : Result R Stop) → disk' ≡ disk → before ≤ mid → IfErr result (IsCaused disk' mid after) → IfErr result (IsCaused disk before after)
later_if disk disk' before mid after (Ok x) same le cause = tt
later_if disk disk' before mid after (Err stop) same le cause = later disk disk' before mid after stop same le cause

-- two calls that only look
pub reads_then : {A R S : Type 0} {old mid new : Sight A} {first : Result R Stop} {result : Result S Stop} → Reads old mid first → Reads mid new result → Reads old new result
reads_then {A} {R} {S} {old} {mid} {new} {first} {result} a b = record {
  shows = λ T s. b.shows T (a.shows T s);
  changed = b.changed ∙ a.changed;
  disk = b.disk ∙ a.disk;
  faults = omega (arith, a.faults, b.faults);
  since = λ f s. b.since f (a.since f s);
  cause = later_if old.disk mid.disk old.faults mid.faults new.faults result a.disk a.faults b.cause;
}

-- one that only looks, and one that changes the draft
pub reads_drafts : {A R S : Type 0} {old mid new : Sight A} {first : Result R Stop} {result : Result S Stop} → Reads old mid first → Drafts mid new result → Drafts old new result
reads_drafts {A} {R} {S} {old} {mid} {new} {first} {result} a b = record {
  shows = λ T s. b.shows T (a.shows T s);
  disk = b.disk ∙ a.disk;
  faults = omega (arith, a.faults, b.faults);
  since = λ f s. b.since f (a.since f s);
  cause = later_if old.disk mid.disk old.faults mid.faults new.faults result a.disk a.faults b.cause;
}

-- two that change the draft
pub drafts_then : {A R S : Type 0} {old mid new : Sight A} {first : Result R Stop} {result : Result S Stop} → Drafts old mid first → Drafts mid new result → Drafts old new result
drafts_then {A} {R} {S} {old} {mid} {new} {first} {result} a b = record {
  shows = λ T s. b.shows T (a.shows T s);
  disk = b.disk ∙ a.disk;
  faults = omega (arith, a.faults, b.faults);
  since = λ f s. b.since f (a.since f s);
  cause = later_if old.disk mid.disk old.faults mid.faults new.faults result a.disk a.faults b.cause;
}

-- one that only looks is one that may change the draft
pub only_reads : {A R : Type 0} {old new : Sight A} {result : Result R Stop} → Reads old new result → Drafts old new result
only_reads a = record { shows = a.shows; disk = a.disk; faults = a.faults; since = a.since; cause = a.cause }

-- the same with another result, whose stop is that of the call
pub drafts_exit : {A R S : Type 0} {old new : Sight A} {stop : Stop} (result : Result S Stop) → Drafts {R = R} old new (Err stop) → IsErrAnd result (λ e. e ≡ stop) → Drafts old new result
drafts_exit (Ok x) a is = absurd is
drafts_exit {old = old} {new = new} (Err e) a is = record { shows = a.shows; disk = a.disk; faults = a.faults; since = a.since; cause = subst (λ (z : Stop). IsCaused old.disk old.faults new.faults z) (sym is) a.cause }

-- the exit of a `?`
pub exits : {A B C D : Type 0} (view : B → A) (view' : D → C) (answer : Answer A) (f : A → Answer C) (stop : Stop) (result : Result D Stop)
    → Says view answer (Err stop) → IsErrAnd result (λ e. e ≡ stop) → Says view' (answer >>= f) result
exits view view' answer f stop (Ok x) first is = absurd is
exits view view' answer f stop (Err e) first is = subst (λ z. Says view' (answer >>= f) (Err z)) (sym is) (stop_says view view' answer f stop first)

stops_alike : {A B D : Type 0} (view : B → A) (view' : D → A) (answer : Answer A) (stop : Stop) (result : Result D Stop)
    → Says view answer (Err stop) → IsErrAnd result (λ e. e ≡ stop) → Says view' answer result
stops_alike view view' (Ok x) stop (Ok y) first is = absurd is
stops_alike view view' (Ok x) stop (Err e) first is = subst IsNoMatter (sym is) first
stops_alike view view' (Err None) stop result first is = tt
stops_alike view view' (Err (Some refusal)) stop (Ok y) first is = absurd is
stops_alike view view' (Err (Some refusal)) stop (Err e) first is = subst (IsRefusal refusal) (sym is) first

-- a call that only looks, and what is answered after it
pub answers_then : {A X Y V W : Type 0} {old mid : Sight A} {view : Y → X} {view' : W → V} {step : Tree → Changed → Answer X} {y : Y} {result : Result W Stop} (f : Tree → Changed → X → Answer V)
    → Answers old view step (Ok y) → Reads {R = Y} old mid (Ok y) → Answers mid view' (λ T D. f T D (view y)) result → Answers old view' (λ T D. step T D >>= f T D) result
answers_then {old = old} {mid = mid} {view = view} {view' = view'} {step = step} {y = y} {result = result} f a reads b = record {
  says = λ T s. then_says view view' (step T old.changed) (f T old.changed) y result (a.says T s) (subst (λ D. Says view' (f T D (view y)) result) reads.changed (b.says T (reads.shows T s)));
}

-- its stop is that of the whole
pub answers_exit : {A X Y V W : Type 0} {old : Sight A} {view : Y → X} {view' : W → V} {step : Tree → Changed → Answer X} {stop : Stop} {result : Result W Stop} (f : Tree → Changed → X → Answer V)
    → Answers old view step (Err stop) → IsErrAnd result (λ e. e ≡ stop) → Answers old view' (λ T D. step T D >>= f T D) result
answers_exit {old = old} {view = view} {view' = view'} {step = step} {stop = stop} {result = result} f a is = record { says = λ T s. exits view view' (step T old.changed) (f T old.changed) stop result (a.says T s) is }

-- a call that only looks, and what is made of its answer alone
pub answers_of : {A X Y V W : Type 0} {old : Sight A} {view : Y → X} {step : Tree → Changed → Answer X} {y : Y} (view' : W → V) (f : X → Answer V) (result : Result W Stop)
    → Answers old view step (Ok y) → Says view' (f (view y)) result → Answers old view' (λ T D. step T D >>= f) result
answers_of {old = old} {view = view} {step = step} {y = y} view' f result a said = record { says = λ T s. then_says view view' (step T old.changed) f y result (a.says T s) said }

-- a call that only looks, and what is changed after it
pub changes_then : {A X Y W : Type 0} {old mid new : Sight A} {view : Y → X} {step : Tree → Changed → Answer X} {y : Y} {result : Result W Stop} (f : Tree → Changed → X → Answer Changed)
    → Answers old view step (Ok y) → Reads {R = Y} old mid (Ok y) → Changes mid new (λ T D. f T D (view y)) result → Changes old new (λ T D. step T D >>= f T D) result
changes_then {old = old} {mid = mid} {new = new} {view = view} {step = step} {y = y} {result = result} f a reads b = record {
  says = λ T s. then_says view (λ w. new.changed) (step T old.changed) (f T old.changed) y result (a.says T s) (subst (λ D. Says (λ w. new.changed) (f T D (view y)) result) reads.changed (b.says T (reads.shows T s)));
}

pub changes_exit : {A X Y W : Type 0} {old new : Sight A} {view : Y → X} {step : Tree → Changed → Answer X} {stop : Stop} {result : Result W Stop} (f : Tree → Changed → X → Answer Changed)
    → Answers old view step (Err stop) → IsErrAnd result (λ e. e ≡ stop) → Changes old new (λ T D. step T D >>= f T D) result
changes_exit {old = old} {new = new} {view = view} {step = step} {stop = stop} {result = result} f a is = record { says = λ T s. exits view (λ w. new.changed) (step T old.changed) (f T old.changed) stop result (a.says T s) is }

-- two calls that change the draft
pub both_change : {A Y W : Type 0} {old mid new : Sight A} {step : Tree → Changed → Answer Changed} {y : Y} {result : Result W Stop} (f : Tree → Changed → Answer Changed)
    → Changes old mid step (Ok y) → Drafts {R = Y} old mid (Ok y) → Changes mid new f result → Changes old new (λ T D. step T D >>= f T) result
both_change {old = old} {mid = mid} {new = new} {step = step} {y = y} {result = result} f a drafts b = record {
  says = λ T s. then_says (λ w. mid.changed) (λ w. new.changed) (step T old.changed) (f T) y result (a.says T s) (b.says T (drafts.shows T s));
}

pub first_exits : {A Y W : Type 0} {old mid new : Sight A} {step : Tree → Changed → Answer Changed} {stop : Stop} {result : Result W Stop} (f : Tree → Changed → Answer Changed)
    → Changes {Y = Y} old mid step (Err stop) → IsErrAnd result (λ e. e ≡ stop) → Changes old new (λ T D. step T D >>= f T) result
first_exits {old = old} {mid = mid} {new = new} {step = step} {stop = stop} {result = result} f a is = record { says = λ T s. exits (λ w. mid.changed) (λ w. new.changed) (step T old.changed) (f T) stop result (a.says T s) is }

-- the stop of a call is that of its caller
pub same_stop : {A Y W : Type 0} {old mid new : Sight A} {step : Tree → Changed → Answer Changed} {stop : Stop} {result : Result W Stop}
    → Changes {Y = Y} old mid step (Err stop) → IsErrAnd result (λ e. e ≡ stop) → Changes old new step result
same_stop {old = old} {mid = mid} {new = new} {step = step} {stop = stop} {result = result} a is = record { says = λ T s. stops_alike (λ w. mid.changed) (λ w. new.changed) (step T old.changed) stop result (a.says T s) is }

-- the same of an equal thing
pub as_at : {X A B : Type 0} (view : B → A) (answer : X → Answer A) (result : Result B Stop) {x x' : X} → x ≡ x' → Says view (answer x) result → Says view (answer x') result
as_at view answer result e said = subst (λ z. Says view (answer z) result) e said

-- steps grouped from the right
pub regroup : {A B C D : Type 0} (view : D → C) (answer : Answer A) (f : A → Answer B) (g : B → Answer C) (result : Result D Stop)
    → Says view ((answer >>= f) >>= g) result → Says view (answer >>= λ x. f x >>= g) result
regroup view (Ok x) f g result said = said
regroup view (Err e) f g result said = said

-- where nothing has changed, and places and counters stay, the reply alone is what comes
pub unchanged_comes : (T : Tree) (D : Changed) (coming : Coming) → D ≡ nothing → coming.places ≡ None → coming.last ≡ None → coming_of T D coming ≡ unchanged T coming.reply
unchanged_comes T D coming same places last = rw (same, places, last) refl

-- a stop is no result
pub no_ok : {R : Type 0} (P : Type 0) (Q : Stop → Type 0) (result : Result R Stop) → IsErrAnd result Q → OnOk result P
no_ok P Q (Ok x) is = absurd is
no_ok P Q (Err e) is = tt

-- a call that only looks, and what comes after it
pub comes_then : {A X Y : Type 0} {old mid new : Sight A} {view : Y → X} {step : Tree → Changed → Answer X} {y : Y} {result : Result Coming Stop} (f : Tree → Changed → X → Answer Outcome)
    → Answers old view step (Ok y) → Reads {R = Y} old mid (Ok y) → Comes mid new (λ T D. f T D (view y)) result → Comes old new (λ T D. step T D >>= f T D) result
comes_then {old = old} {mid = mid} {new = new} {view = view} {step = step} {y = y} {result = result} f a reads b = record {
  says = λ T s. then_says view (coming_of T new.changed) (step T old.changed) (f T old.changed) y result (a.says T s) (subst (λ D. Says (coming_of T new.changed) (f T D (view y)) result) reads.changed (b.says T (reads.shows T s)));
  fits = b.fits;
}

pub comes_exit : {A X Y : Type 0} {old new : Sight A} {view : Y → X} {step : Tree → Changed → Answer X} {stop : Stop} {result : Result Coming Stop} (f : Tree → Changed → X → Answer Outcome)
    → Answers old view step (Err stop) → IsErrAnd result (λ e. e ≡ stop) → Comes old new (λ T D. step T D >>= f T D) result
comes_exit {old = old} {new = new} {view = view} {step = step} {stop = stop} {result = result} f a is = record {
  says = λ T s. exits view (coming_of T new.changed) (step T old.changed) (f T old.changed) stop result (a.says T s) is;
  fits = no_ok _ _ result is;
}

-- a call that changes the draft, and what comes after it
pub changes_come : {A Y : Type 0} {old mid new : Sight A} {step : Tree → Changed → Answer Changed} {y : Y} {result : Result Coming Stop} (f : Tree → Changed → Answer Outcome)
    → Changes old mid step (Ok y) → Drafts {R = Y} old mid (Ok y) → Comes mid new f result → Comes old new (λ T D. step T D >>= f T) result
changes_come {old = old} {mid = mid} {new = new} {step = step} {y = y} {result = result} f a drafts b = record {
  says = λ T s. then_says (λ w. mid.changed) (coming_of T new.changed) (step T old.changed) (f T) y result (a.says T s) (b.says T (drafts.shows T s));
  fits = b.fits;
}

pub changes_come_exit : {A Y : Type 0} {old mid new : Sight A} {step : Tree → Changed → Answer Changed} {stop : Stop} {result : Result Coming Stop} (f : Tree → Changed → Answer Outcome)
    → Changes {Y = Y} old mid step (Err stop) → IsErrAnd result (λ e. e ≡ stop) → Comes old new (λ T D. step T D >>= f T) result
changes_come_exit {old = old} {mid = mid} {new = new} {step = step} {stop = stop} {result = result} f a is = record {
  says = λ T s. exits (λ w. mid.changed) (coming_of T new.changed) (step T old.changed) (f T) stop result (a.says T s) is;
  fits = no_ok _ _ result is;
}

-- the same at an equal place
pub comes_at : {A X : Type 0} {old new : Sight A} (step : X → Tree → Changed → Answer Outcome) {x x' : X} {result : Result Coming Stop} → x ≡ x' → Comes old new (step x) result → Comes old new (step x') result
comes_at {old = old} {new = new} step {result = result} e a = subst (λ z. Comes old new (step z) result) e a

-- the same by another way to the outcome
pub comes_as : {A : Type 0} {old new : Sight A} {step step' : Tree → Changed → Answer Outcome} {result : Result Coming Stop}
    → ((T : Tree) (D : Changed) (view : Coming → Outcome) → Says view (step T D) result → Says view (step' T D) result) → Comes old new step result → Comes old new step' result
comes_as {old = old} {new = new} way a = record { says = λ T s. way T old.changed (coming_of T new.changed) (a.says T s); fits = a.fits }

pub changes_at : {A X Y : Type 0} {old new : Sight A} (step : X → Tree → Changed → Answer Changed) {x x' : X} {result : Result Y Stop} → x ≡ x' → Changes old new (step x) result → Changes old new (step x') result
changes_at {old = old} {new = new} step {result = result} e a = subst (λ z. Changes old new (step z) result) e a

pub answers_at : {A X Y Z : Type 0} {desk : Sight A} {view : Y → Z} (step : X → Tree → Changed → Answer Z) {x x' : X} {result : Result Y Stop} → x ≡ x' → Answers desk view (step x) result → Answers desk view (step x') result
answers_at {desk = desk} {view = view} step {result = result} e a = subst (λ z. Answers desk view (step z) result) e a

-- steps grouped from the right
pub regrouped : {A B C E R : Type 0} {desk : Sight A} {view : R → E} {result : Result R Stop} (step : Tree → Changed → Answer B) (f : Tree → Changed → B → Answer C) (h : Tree → Changed → C → Answer E)
    → Answers desk view (λ T D. (step T D >>= f T D) >>= h T D) result → Answers desk view (λ T D. step T D >>= λ x. f T D x >>= h T D) result
regrouped {desk = desk} {view = view} {result = result} step f h a = record { says = λ T s. regroup view (step T desk.changed) (f T desk.changed) (h T desk.changed) result (a.says T s) }

-- a test that passes, and one that doesn't
pub passing : {A E R : Type 0} {desk : Sight A} {view : R → E} {result : Result R Stop} {b : Bool} (refusal : CommandRefusal) (f : Tree → Changed → Unit {0} → Answer E)
    → b ≡ false → Answers desk view (λ T D. f T D tt) result → Answers desk view (λ T D. refused_if b refusal >>= f T D) result
passing {desk = desk} {view = view} {result = result} {b = b} refusal f e a = record { says = λ T s. passes view b refusal (f T desk.changed) result e (a.says T s) }

pub refusing : {A E R : Type 0} {desk : Sight A} {view : R → E} {b : Bool} (refusal : CommandRefusal) (f : Tree → Changed → Unit {0} → Answer E)
    → b ≡ true → Answers desk view (λ T D. refused_if b refusal >>= f T D) (Err (Refused refusal))
refusing {desk = desk} {view = view} {b = b} refusal f e = record { says = λ T s. refuses view b refusal (f T desk.changed) e }

-- what is answered without a call
pub told : {A X Y : Type 0} {desk : Sight A} (view : Y → X) (answer : Answer X) (result : Result Y Stop) → Says view answer result → Answers desk view (λ T D. answer) result
told view answer result said = record { says = λ T s. said }

-- what is asked of the places that are known is asked of the tree
pub asked_places : {A X Y : Type 0} {desk : Sight A} {places : List FolderPlace} (view : Y → X) (ask : List FolderPlace → Answer X) (result : Result Y Stop)
    → IsAbout desk (λ T. T.places ≡ places) → Says view (ask places) result → Answers desk view (λ T D. ask T.places) result
asked_places view ask result known said = record { says = λ T s. as_at view ask result (sym (known T s)) said }

-- the same at three equal things
pub changes_at3 : {A X Y Z R : Type 0} {old new : Sight A} (step : X → Y → Z → Tree → Changed → Answer Changed) {x x' : X} {y y' : Y} {z z' : Z} {result : Result R Stop}
    → x ≡ x' → y ≡ y' → z ≡ z' → Changes old new (step x y z) result → Changes old new (step x' y' z') result
changes_at3 step {x} {x'} {y} {y'} {z} {z'} e e' e'' a = changes_at (step x' y') e'' (changes_at (λ b. step x' b z) e' (changes_at (λ a. step a y z) e a))

pub comes_at3 : {A X Y Z : Type 0} {old new : Sight A} (step : X → Y → Z → Tree → Changed → Answer Outcome) {x x' : X} {y y' : Y} {z z' : Z} {result : Result Coming Stop}
    → x ≡ x' → y ≡ y' → z ≡ z' → Comes old new (step x y z) result → Comes old new (step x' y' z') result
comes_at3 step {x} {x'} {y} {y'} {z} {z'} e e' e'' a = comes_at (step x' y') e'' (comes_at (λ b. step x' b z) e' (comes_at (λ a. step a y z) e a))

-- the changes so far are these
pub changes_from : {A R : Type 0} {old new : Sight A} {D : Changed} {result : Result R Stop} (step : Tree → Changed → Answer Changed) → old.changed ≡ D → Changes old new step result → Changes old new (λ T c. step T D) result
changes_from {new = new} {result = result} step e a = record { says = λ T s. subst (λ E. Says (λ r. new.changed) (step T E) result) e (a.says T s) }

pub comes_from : {A : Type 0} {old new : Sight A} {D : Changed} {result : Result Coming Stop} (step : Tree → Changed → Answer Outcome) → old.changed ≡ D → Comes old new step result → Comes old new (λ T c. step T D) result
comes_from {new = new} {result = result} step e a = record { says = λ T s. subst (λ E. Says (coming_of T new.changed) (step T E) result) e (a.says T s); fits = a.fits }

-- nothing but a reply
pub comes_unchanged : {A : Type 0} {desk : Sight A} (coming : Coming) (reply : Reply) → desk.changed ≡ nothing → coming.places ≡ None → coming.last ≡ None → coming.reply ≡ reply
    → Comes desk desk (λ T c. Ok (unchanged T reply)) (Ok coming)
comes_unchanged {desk = desk} coming reply same places last is = record {
  says = λ T s. unchanged_comes T desk.changed coming same places last ∙ ap (unchanged T) is;
  fits = nothing-fits desk.changed (ap (λ (D : Changed). D.objects) same);
}
