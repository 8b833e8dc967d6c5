-- What a command comes to, as contracts see it.
use Rattle.std.specs.Prelude.{◌≡◌, true, Option, None, Some, Result, OnOk}
use Rattle.mail_tree.specs.Changing.{Answer, Changed}
use Rattle.mail_draft.specs.Answers.{Says}
use Rattle.mail_draft.specs.Desks as tree
use Rattle.mail_draft.specs.Drafts.{all_fit}
use Rattle.mail_draft.specs.Outcomes.{outcome_of}
use Rattle.mail_draft.specs.Sight.{Sight}
use Rattle.mail_draft.specs.declared.stop.Stop.{Stop}
use Rattle.mail_searches.specs.Criteria as defined
use Rattle.mail_searches.specs.Searching.{Searching}
use Rattle.mail_searches.specs.declared.known.KnownSearches.{KnownSearches}
use Rattle.search_folders.specs.declared.coming.Coming.{Coming}
use Rattle.search_folders.specs.declared.outcome.SearchOutcome.{SearchOutcome}

-- what there is after a command: what it gives, or what there was
abbrev pub new_or_old : {A : Type 0} → A → Option A → A
new_or_old old None = old
new_or_old old (Some new) = new

-- what comes beside the changes makes what the command comes to on a tree with searches
abbrev pub coming_of : Searching → Changed → Coming → defined.Coming
coming_of X changed c = record { outcome = tree.coming_of X.tree changed c.tree; own = new_or_old X.own c.own; searches = new_or_old X.searches c.searches }

-- what it comes to on a tree with searches
abbrev pub comes_to : Searching → SearchOutcome → defined.Coming
comes_to X c = record { outcome = outcome_of X.tree c.outcome; own = new_or_old X.own c.own; searches = new_or_old X.searches c.searches }

-- what is known of the searches of a tree is so
pub record KnowsSearches (X : Searching) (known : KnownSearches) : Type 0 where
  pub own : X.own ≡ known.own
  pub searches : X.searches ≡ known.searches

-- The changes and what comes beside them are what the step makes of each tree that is shown, with the searches that are known of it. All that changes may be written.
pub record ComesAmong {A : Type 0} (old new : Sight A) (known : KnownSearches) (step : Searching → Answer defined.Coming) (result : Result Coming Stop) : Type 0 where
  pub says : (X : Searching) → old.shows X.tree → KnowsSearches X known → Says (coming_of X new.changed) (step X) result
  pub fits : OnOk result (all_fit new.changed ≡ true)
