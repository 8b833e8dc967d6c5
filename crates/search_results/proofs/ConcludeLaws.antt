-- What a command comes to where there are searches.
use Rattle.std.proofs.Common.{◌≡◌, ◌≤◌, ◌+◌, ℕ, ◌&&◌, length, Bool, true, false, List, [], ◌∷◌, ◌++◌, Option, None, Some, Result, Ok, Err, refl, sym, ◌∙◌, subst, if◌then◌else◌}
use Rattle.std.specs.Global.{Vec}
use Rattle.std.specs.Result.{IsErrAnd}
use Rattle.mail_tree.specs.declared.places.FolderPlace.{FolderPlace}
use Rattle.command_text.specs.declared.command.Command.{Command}
use Rattle.mail_tree.specs.Changing.{Answer, Changed, ◌>>=◌, contents, known, message_at, nothing, table_at}
use Rattle.mail_tree.specs.Folders.{Outcome}
use Rattle.mail_tree.specs.Places.{is_plain, is_within, place_id}
use Rattle.mail_tree.specs.Settling.{message_ids}
use Rattle.mail_tree.specs.Tree.{Tree}
use Rattle.mail_draft.specs.declared.coming.Coming.{Coming}
use Rattle.mail_draft.specs.declared.stop.Stop.{Stop}
use Rattle.mail_draft.specs.Answers.{Says}
use Rattle.mail_draft.specs.Desks.{Comes, coming_of}
use Rattle.mail_draft.specs.Sight.{IsAbout, Reads, Sight}
use Rattle.mail_draft.proofs.DeskCalls.{comes_as, comes_at, no_ok}
use Rattle.mail_draft.proofs.Passes.{stop_says, then_says}
use Rattle.mail_searches.specs.Asking.{work_of}
use Rattle.mail_searches.specs.Relisting.{Around, Touch, around, settled_searches, with_searches}
use Rattle.mail_searches.specs.Searches.{Search}
use Rattle.mail_searches.specs.Step.{concluded, if_within}
use Rattle.mail_searches.specs.Touching.{carried, messages_below, stands_in, touched}
use Rattle.search_results.specs.declared.forms.TouchForm.{TouchForm}
use Rattle.search_results.specs.declared.forms.TouchForm.TheVariants as forms
use Rattle.search_results.specs.Concluding.{AsksTouched, Concludes, settled_within}
use Rattle.search_results.specs.Forms.{form_of, touched_by}
use Rattle.search_results.specs.Touched.{TouchedBy}
use Rattle.search_results.proofs.FormLaws.{touched_is}
use Rattle.search_results.proofs.JoinLaws.{stopped}
use Rattle.search_results.proofs.Steps.{comes_after}

-- there is an answer, or something isn't of its form: nothing is refused
abbrev Unrefused : {A : Type 0} → Answer A → Type 0
Unrefused (Ok x) = Unit {0}
Unrefused (Err None) = Unit {0}
Unrefused (Err (Some refusal)) = ⊥

onward : {A B : Type 0} (a : Answer A) (f : A → Answer B) → Unrefused a → ((x : A) → Unrefused (f x)) → Unrefused (a >>= f)
onward (Ok x) f h next = next x
onward (Err None) f h next = tt
onward (Err (Some refusal)) f h next = h

if_known : {A : Type 0} (o : Option A) → Unrefused (known o)
if_known None = tt
if_known (Some x) = tt

module _ (T : Tree) where
  carried_never : (ms : List ℕ) → Unrefused (carried T ms)
  carried_never [] = tt
  carried_never (m ∷ ms) = onward (message_at T nothing m) _ (if_known _) (λ M. onward (carried T ms) _ (carried_never ms) (λ ts. tt))

  below_never : (f : ℕ) (ps : List FolderPlace) → Unrefused (messages_below T f ps)
  below_never f [] = tt
  below_never f (p ∷ ps) = pick (below_never f ps) (is_plain p && is_within T.places f (place_id p))
    where
      pick : Unrefused (messages_below T f ps) → (b : Bool) → Unrefused (if b then (table_at T nothing (contents (place_id p)) >>= λ t. carried T (message_ids t.table) >>= λ ts. messages_below T f ps >>= λ more. Ok (ts ++ more)) else messages_below T f ps)
      pick rest true = onward (table_at T nothing (contents (place_id p))) _ (if_known _) (λ t. onward (carried T (message_ids t.table)) _ (carried_never (message_ids t.table)) (λ ts. onward (messages_below T f ps) _ rest (λ more. tt)))
      pick rest false = rest

  by_form : (form : TouchForm) (o : Outcome) → Unrefused (touched_by T form o)
  by_form forms.Nothing o = tt
  by_form forms.Made o = tt
  by_form (forms.Message m) o = tt
  by_form (forms.Within folder parent) o = pick (stands_in T folder.bits parent.bits)
    where
      pick : (b : Bool) → Unrefused (if b then Ok [] else messages_below T folder.bits T.places)
      pick true = tt
      pick false = below_never folder.bits T.places

  touched_never : (c : Command) (o : Outcome) → Unrefused (touched T c o)
  touched_never c o = subst Unrefused (sym (touched_is T c o)) (by_form (form_of c) o)

  -- where there are no searches, only the limits are looked at
  idle : {E : Type 0} (view : E → Outcome) (ss : List Search) (c : Command) (o : Outcome) (r : Result E Stop) → ss ≡ [] → Says view (if_within T o) r → Says view (concluded T ss c o) r
  unfolding concluded
  idle {E} view ss c o r none h = rw none (pick (touched T c o) (touched_never c o))
    where
      pick : (a : Answer (List Touch)) → Unrefused a → Says view ((a >>= λ ts. with_searches T [] ts o) >>= if_within T) r
      pick (Ok ts) never = h
      pick (Err None) never = tt
      pick (Err (Some refusal)) never = absurd never

  -- with the touched messages, the lists follow them
  follows : {E : Type 0} (view : E → Outcome) (ss : List Search) (c : Command) (o : Outcome) (r : Result E Stop) → Says view (touched T c o >>= λ ts. with_searches T ss ts o >>= if_within T) r → Says view (concluded T ss c o) r
  unfolding concluded
  follows view ss c o r h = pick (touched T c o) h
    where
      pick : (a : Answer (List Touch)) → Says view (a >>= λ ts. with_searches T ss ts o >>= if_within T) r → Says view ((a >>= λ ts. with_searches T ss ts o) >>= if_within T) r
      pick (Ok ts) said = said
      pick (Err e) said = said

  -- the touched messages that were read are all
  same_touched : {E : Type 0} (view : E → List Touch) (c : Command) (o : Outcome) (ts : List Touch) (y : E) → touched T c o ≡ Ok ts → Says view (touched T c o) (Ok y) → view y ≡ ts
  same_touched view c o ts y e h = subst (λ (a : Answer (List Touch)). Says view a (Ok y)) e h

-- all searches are settled, and what is then written keeps to the limits
pub settles_within : {A : Type 0} {old new : Sight A} {result : Result Coming Stop} (ss : List Search) (ts : List Touch) (coming : Coming)
    → Comes old new (λ T D. settled_searches T (around T (coming_of T D coming)) ts ss D >>= λ E. if_within T (coming_of T E coming)) result
    → Comes old new (λ T D. settled_within T ss ts (coming_of T D coming)) result
settles_within {result = result} ss ts coming h = comes_as (λ T D view said. pick T D view (settled_searches T (around T (coming_of T D coming)) ts ss D) said) h
  where
    pick : (T : Tree) (D : Changed) (view : Coming → Outcome) (a : Answer Changed) → Says view (a >>= λ E. if_within T (coming_of T E coming)) result
        → Says view ((a >>= λ E. Ok (record (coming_of T D coming) { changed = E })) >>= if_within T) result
    pick T D view (Ok E) said = said
    pick T D view (Err e) said = said

-- nothing is left of a list of no length
pub none_there : {A : Type 0} (xs : List A) → length xs ≡ 0 → xs ≡ []
none_there [] e = refl
none_there (x ∷ xs) e = cc

-- the same messages and searches, the same work
work_for : (d : Around) (ss ss' : List Search) (ts ts' : List Touch) (old new : ℕ) → ts ≡ ts' → ss' ≡ ss → new ≤ old + work_of d ts ss' → new ≤ old + work_of d ts' ss
work_for d ss ss' ts ts' old new e f h = subst (λ (x : List Touch). new ≤ old + work_of d x ss) e (subst (λ (x : List Search). new ≤ old + work_of d ts x) f h)

module _ {A : Type 0} {old : Sight A} {ss : List Search} {command : Command} {coming : Coming} where
  -- without searches
  pub concludes_idle : {new : Sight A} {result : Result Coming Stop} → ss ≡ [] → Comes old new (λ T D. if_within T (coming_of T D coming)) result → Concludes old new ss command coming result
  concludes_idle {new} {result} none h = record { says = λ T s comes. idle T (coming_of T new.changed) ss command _ result none (h.says T s); fits = h.fits }

  -- the touched messages were read, and lists follow them
  pub concludes_then : {mid new : Sight A} {result : Result Coming Stop} {ss' : List Search} {touches : Vec Touch} {ts : List Touch} → TouchedBy old command coming (Ok touches) → Reads {R = Vec Touch} old mid (Ok touches)
      → ss' ≡ ss → ts ≡ touches.items → Comes mid new (λ T D. settled_within T ss' ts (coming_of T D coming)) result → Concludes old new ss command coming result
  concludes_then {mid} {new} {result} {ss'} {touches} {ts} touched reads same items h =
      let came = comes_at (λ xs T D. settled_within T ss xs (coming_of T D coming)) items (comes_at (λ xs T D. settled_within T xs ts (coming_of T D coming)) same h) in
      let after = comes_after reads came in
      record {
        says = λ T s comes. follows T (coming_of T new.changed) ss command _ result
            (then_says (λ ts. ts.items) (coming_of T new.changed) _ (λ ts. settled_within T ss ts (coming_of T old.changed coming)) touches result (touched.says T s comes) (after.says T s));
        fits = h.fits;
      }

  -- so many restrictions were reached
  pub asks_then : {mid : Sight A} {ss' : List Search} {touches : Vec Touch} {ts : List Touch} {before after : ℕ} → TouchedBy old command coming (Ok touches) → Reads {R = Vec Touch} old mid (Ok touches) → ss' ≡ ss → ts ≡ touches.items
      → IsAbout mid (λ T. after ≤ before + work_of (around T (coming_of T mid.changed coming)) ts ss') → AsksTouched old ss command coming before after
  asks_then {mid} {ss'} {touches} {ts} {before} {after} touched reads same items h = record {
    most = λ T s comes all is. work_for (around T (coming_of T mid.changed coming)) ss ss' ts all before after (items ∙ same_touched T (λ x. x.items) command _ all touches is (touched.says T s comes)) same (h T (reads.shows T s));
  }

  -- they couldn't be read
  pub concludes_exit : {new : Sight A} {result : Result Coming Stop} {stop : Stop} → TouchedBy old command coming (Err stop) → IsErrAnd result (λ e. e ≡ stop) → Concludes old new ss command coming result
  concludes_exit {new} {result} {stop} touched is = record {
    says = λ T s comes. follows T (coming_of T new.changed) ss command _ result
        (stopped (coming_of T new.changed) _ stop result is (stop_says {B = Vec Touch} (λ ts. ts.items) (coming_of T new.changed) _ (λ ts. settled_within T ss ts (coming_of T old.changed coming)) stop (touched.says T s comes)));
    fits = no_ok _ _ result is;
  }
