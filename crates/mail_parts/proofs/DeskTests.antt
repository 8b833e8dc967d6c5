-- What a line comes to on a desk after a test, and a reply alone.
use Rattle.std.proofs.Common.{◌≡◌, ◌∙◌, Bool, true, false, Option, None, Some, Result, Ok, Err, refl, sym, ap, subst}
use Rattle.std.specs.Result.{IsErrAnd}
use Rattle.command_text.specs.declared.reply.CommandRefusal.{CommandRefusal}
use Rattle.command_text.specs.declared.reply.LastLine.{LastLine}
use Rattle.command_text.specs.declared.reply.Reply.{Reply}
use Rattle.mapi_values.specs.Messages.{Mes}
use Rattle.mail_tree.specs.Tree.{Tree}
use Rattle.mail_tree.specs.Changing.{Answer, Changed, ◌>>=◌, found, nothing, refused_if}
use Rattle.mail_tree.specs.Folders.{Outcome, unchanged}
use Rattle.mail_tree.specs.Messages.{remaking}
use Rattle.mail_draft.specs.declared.coming.Coming.{Coming}
use Rattle.mail_draft.specs.declared.outcome.Outcome.{Outcome as OneOutcome}
use Rattle.mail_draft.specs.declared.stop.Stop.{Stop}
use Rattle.mail_draft.specs.declared.stop.Stop.TheVariants.{Refused}
use Rattle.mail_draft.specs.Answers.{IsNoMatter, IsRefusal, Says}
use Rattle.mail_draft.specs.Desks.{Comes, coming_of}
use Rattle.mail_draft.specs.Outcomes.{outcome_of}
use Rattle.mail_draft.specs.Sight.{Sight}
use Rattle.mail_draft.proofs.DeskCalls.{comes_at3, no_ok, unchanged_comes}
use Rattle.mail_draft.proofs.FitLaws.{nothing-fits}
use Rattle.mail_parts.proofs.Tests.{found_says, missing_says, passed_says, refused_says}

-- a test that refuses, and one that doesn't
pub comes_refused : {A : Type 0} {old new : Sight A} (b : Bool) (refusal : CommandRefusal) (f : Tree → Unit {0} → Answer Outcome) → b ≡ true
    → Comes old new (λ T D. refused_if b refusal >>= f T) (Err (Refused refusal))
comes_refused {new = new} b refusal f e = record { says = λ T s. refused_says (coming_of T new.changed) b refusal (f T) e; fits = tt }

pub comes_passed : {A : Type 0} {old new : Sight A} {result : Result Coming Stop} (b : Bool) (refusal : CommandRefusal) (f : Tree → Unit {0} → Answer Outcome) → b ≡ false
    → Comes old new (λ T D. f T tt) result → Comes old new (λ T D. refused_if b refusal >>= f T) result
comes_passed {new = new} {result = result} b refusal f e a = record { says = λ T s. passed_says (coming_of T new.changed) b refusal (f T) result e (a.says T s); fits = a.fits }

-- a thing that is there, and one that isn't
pub comes_found : {A C : Type 0} {old new : Sight A} {result : Result Coming Stop} (refusal : CommandRefusal) (o : Option C) (x : C) (f : Tree → C → Answer Outcome) → o ≡ Some x
    → Comes old new (λ T D. f T x) result → Comes old new (λ T D. found refusal o >>= f T) result
comes_found {new = new} {result = result} refusal o x f e a = record { says = λ T s. found_says (coming_of T new.changed) refusal o x (f T) result e (a.says T s); fits = a.fits }

pub comes_missing : {A C : Type 0} {old new : Sight A} (refusal : CommandRefusal) (o : Option C) (f : Tree → C → Answer Outcome) → o ≡ None
    → Comes old new (λ T D. found refusal o >>= f T) (Err (Refused refusal))
comes_missing {new = new} refusal o f e = record { says = λ T s. missing_says (coming_of T new.changed) refusal o (f T) e; fits = tt }

-- what goes on alike from each thing that may be there
pub found_alike : {C : Type 0} {X : Type 0} (refusal : CommandRefusal) (o : Option C) (f g : C → Answer X) → ((x : C) → f x ≡ g x) → (found refusal o >>= f) ≡ (found refusal o >>= g)
found_alike refusal None f g same = refl
found_alike refusal (Some x) f g same = same x

-- the same where each step is the same
pub comes_alike : {A : Type 0} {old new : Sight A} {result : Result Coming Stop} (step step' : Tree → Answer Outcome) → ((T : Tree) → step T ≡ step' T)
    → Comes old new (λ T D. step T) result → Comes old new (λ T D. step' T) result
comes_alike {new = new} {result = result} step step' same a = record {
  says = λ T s. subst (λ (answer : Answer Outcome). Says (coming_of T new.changed) answer result) (same T) (a.says T s);
  fits = a.fits;
}

-- an equal message with an equal end is remade alike
pub comes_remade : {A : Type 0} {old new : Sight A} {result : Result Coming Stop} {m m' : Mes} {reason reason' : Option CommandRefusal} {last last' : LastLine}
    → m ≡ m' → reason ≡ reason' → last ≡ last' → Comes old new (λ T D. remaking T m reason last) result → Comes old new (λ T D. remaking T m' reason' last') result
comes_remade e e' e'' a = comes_at3 (λ (m : Mes) (reason : Option CommandRefusal) (last : LastLine) T D. remaking T m reason last) e e' e'' a

-- a stop is the same for each view
pub stops_too : {X Y Z : Type 0} (view : Y → X) (view' : Z → X) (answer : Answer X) (stop : Stop) (result : Result Z Stop)
    → Says view answer (Err stop) → IsErrAnd result (λ e. e ≡ stop) → Says view' answer result
stops_too view view' answer stop (Ok z) told is = absurd is
stops_too view view' (Ok x) stop (Err e) told is = subst IsNoMatter (sym is) told
stops_too view view' (Err None) stop (Err e) told is = tt
stops_too view view' (Err (Some refusal)) stop (Err e) told is = subst (IsRefusal refusal) (sym is) told

-- and so is what is seen alike
pub gives_too : {X Y Z : Type 0} (view : Y → X) (view' : Z → X) (answer : Answer X) (y : Y) (z : Z) → view' z ≡ view y → Says view answer (Ok y) → Says view' answer (Ok z)
gives_too view view' (Ok x) y z same told = same ∙ told
gives_too view view' (Err None) y z same told = tt
gives_too view view' (Err (Some refusal)) y z same told = absurd told

-- where nothing but a reply comes, the reply is told alone
pub reply_alone : {V : Type 0} (T : Tree) (answer : Answer V) (f : V → Reply) (told : OneOutcome) → Says (outcome_of T) (answer >>= λ v. Ok (unchanged T (f v))) (Ok told)
    → Says (unchanged T) (answer >>= λ v. Ok (unchanged T (f v))) (Ok told.reply)
reply_alone T (Ok v) f told said = ap (λ (o : Outcome). unchanged T o.reply) said
reply_alone T (Err None) f told said = tt
reply_alone T (Err (Some refusal)) f told said = absurd said

-- nothing but a reply, and a stop in place of it
pub reply_comes : {A : Type 0} {desk : Sight A} {reply : Reply} (step : Tree → Answer Outcome) (coming : Coming) → ((T : Tree) → Says (unchanged T) (step T) (Ok reply))
    → desk.changed ≡ nothing → coming.places ≡ None → coming.last ≡ None → coming.reply ≡ reply → Comes desk desk (λ T D. step T) (Ok coming)
reply_comes {desk = desk} {reply = reply} step coming told same places last is = record {
  says = λ T s. gives_too (unchanged T) (coming_of T desk.changed) (step T) reply coming (unchanged_comes T desk.changed coming same places last ∙ ap (unchanged T) is) (told T);
  fits = nothing-fits desk.changed (ap (λ (D : Changed). D.objects) same);
}

pub reply_stops : {A : Type 0} {old new : Sight A} (step : Tree → Answer Outcome) (stop : Stop) (result : Result Coming Stop) → ((T : Tree) → Says {B = Reply} (unchanged T) (step T) (Err stop))
    → IsErrAnd result (λ e. e ≡ stop) → Comes old new (λ T D. step T) result
reply_stops {new = new} step stop result told is = record {
  says = λ T s. stops_too {Y = Reply} (unchanged T) (coming_of T new.changed) (step T) stop result (told T) is;
  fits = no_ok _ _ result is;
}
