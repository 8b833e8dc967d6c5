-- What a command comes to with the lists of searches behind it.
use Rattle.std.proofs.Common.{◌≡◌, List, None, Some, Ok, Err, Result, ap, refl, subst, sym}
use Rattle.command_text.specs.declared.command.Command.{Command}
use Rattle.mail_tree.specs.Changing.{Answer, Changed, ◌>>=◌}
use Rattle.mail_tree.specs.Folders.{Outcome}
use Rattle.mail_tree.specs.Step.{outcome as outcome_in_tree}
use Rattle.mail_tree.specs.Tree.{Tree}
use Rattle.mail_draft.proofs.Passes.{then_says}
use Rattle.mail_draft.specs.Answers.{Says}
use Rattle.mail_draft.specs.Desks.{Comes, coming_of as coming_in_tree}
use Rattle.mail_draft.specs.Sight.{Drafts, Sight}
use Rattle.mail_draft.specs.declared.coming.Coming.{Coming as ComingInTree}
use Rattle.mail_draft.specs.declared.stop.Stop.{Stop}
use Rattle.mail_searches.specs.Criteria as defined
use Rattle.mail_searches.specs.Criteria.{staying}
use Rattle.mail_searches.specs.Searches.{Search}
use Rattle.mail_searches.specs.Searching.{Searching}
use Rattle.mail_searches.specs.Step.{concluded, plain_outcome}
use Rattle.mail_searches.specs.declared.known.KnownSearches.{KnownSearches}
use Rattle.search_folders.specs.Comings.{ComesAmong, KnowsSearches, coming_of}
use Rattle.search_folders.specs.Pieces.{stays_after}
use Rattle.search_folders.specs.declared.coming.Coming.{Coming}
use Rattle.search_folders.specs.search_results.Concluding.{Concludes}

-- what a call gives goes into the next step, which may hang on that it was given
then_given : {A B C D : Type 0} (view : B → A) (view' : D → C) (answer : Answer A) (f : A → Answer C) (y : B) (r : Result D Stop)
    → Says view answer (Ok y) → (answer ≡ Ok (view y) → Says view' (f (view y)) r) → Says view' (answer >>= f) r
then_given view view' (Ok x) f y r said next = subst (λ z. Says view' (f z) r) said (next (ap Ok (sym said)))
then_given view view' (Err None) f y r said next = tt
then_given view view' (Err (Some refusal)) f y r said next = absurd said

-- the searches stay what they are
abbrev Stays : ComingInTree → Coming → Type 0
Stays tree made = (X : Searching) (D : Changed) → staying X (coming_in_tree X.tree D tree) ≡ Ok (coming_of X D made)

module _ {A : Type 0} {old new : Sight A} (known : KnownSearches) (step : Tree → Answer Outcome) where
  pub stays_well : (tree : ComingInTree) (made : Coming) → Stays tree made → Comes old new (λ T D. step T) (Ok tree) → ComesAmong old new known (λ X. stays_after X (step X.tree)) (Ok made)
  stays_well tree made stays comes = record {
    says = λ X s knows. then_says (coming_in_tree X.tree new.changed) (coming_of X new.changed) (step X.tree) (staying X) tree (Ok made) (comes.says X.tree s)
        (subst (λ (a : Answer defined.Coming). Says (coming_of X new.changed) a (Ok made)) (sym (stays X new.changed)) refl);
    fits = comes.fits;
  }

module _ {A : Type 0} {old mid : Sight A} (known : KnownSearches) (c : Command) (coming : ComingInTree) (first : Comes old mid (λ T D. outcome_in_tree T c) (Ok coming)) (drafts : Drafts {R = ComingInTree} old mid (Ok coming)) where
  -- both steps
  joined : {new : Sight A} (r : Result ComingInTree Stop) → Concludes mid new known.searches c coming r → (X : Searching) → old.shows X.tree → KnowsSearches X known
      → Says (coming_in_tree X.tree new.changed) (outcome_in_tree X.tree c >>= concluded X.tree X.searches c) r
  joined {new} r concludes X s knows =
      then_given (coming_in_tree X.tree mid.changed) (coming_in_tree X.tree new.changed) (outcome_in_tree X.tree c) (concluded X.tree X.searches c) coming r (first.says X.tree s)
      (λ is. subst (λ (ss : List Search). Says (coming_in_tree X.tree new.changed) (concluded X.tree ss c (coming_in_tree X.tree mid.changed coming)) r) (sym knows.searches) (concludes.says X.tree (drafts.shows X.tree s) is))

  pub follows_well : {new : Sight A} (tree : ComingInTree) (made : Coming) → Stays tree made → Concludes mid new known.searches c coming (Ok tree) → ComesAmong old new known (λ X. plain_outcome X c) (Ok made)
  follows_well {new} tree made stays concludes = record {
    says = λ X s knows.
        then_says (coming_in_tree X.tree new.changed) (coming_of X new.changed) (outcome_in_tree X.tree c >>= concluded X.tree X.searches c) (staying X) tree (Ok made) (joined (Ok tree) concludes X s knows)
        (subst (λ (a : Answer defined.Coming). Says (coming_of X new.changed) a (Ok made)) (sym (stays X new.changed)) refl);
    fits = concludes.fits;
  }
