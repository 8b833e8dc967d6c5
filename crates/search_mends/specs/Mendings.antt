-- What mending a search comes to, as contracts see it, and what is planned of it.
use Rattle.std.specs.Prelude.{◌≡◌, ℕ, true, Result, Ok, Err, OnOk}
use Rattle.node_port.specs.Stops.{Room}
use Rattle.mail_tree.specs.Changing.{Answer, Changed}
use Rattle.mail_tree.specs.Tree.{Tree}
use Rattle.mail_tree.specs.Whole.{IsWhole}
use Rattle.store_session.specs.mail_draft.Answers.{Says}
use Rattle.store_session.specs.mail_draft.Desks.{coming_of}
use Rattle.store_session.specs.mail_draft.Drafts.{all_fit}
use Rattle.store_session.specs.mail_draft.Outcomes.{outcome_of}
use Rattle.store_session.specs.mail_draft.Sight.{Sight}
use Rattle.store_session.specs.mail_draft.declared.stop.Stop.{Stop}
use Rattle.store_session.specs.mail_store.Space.{HasRoom}
use Rattle.mail_searches.specs.Searching.{Searching}
use Rattle.search_mending.specs.Mending.{Mending, mended_search}
use Rattle.search_mends.specs.Stops.{StopsMending}
use Rattle.search_mends.specs.declared.coming.MendingBeside.{MendingBeside}
use Rattle.search_mends.specs.declared.coming.SearchMending.{SearchMending}
use Rattle.search_mends.specs.declared.stop.MendStop.{MendStop}

-- what it comes to on a tree with searches
abbrev pub mending_of : Searching → SearchMending → Mending
mending_of X m = record { stale = m.stale; first = m.first; coming = record { outcome = outcome_of X.tree m.outcome; own = X.own; searches = X.searches } }

-- the same of what it comes to beside the changes
abbrev pub mending_beside : Searching → Changed → MendingBeside → Mending
mending_beside X D m = record { stale = m.stale; first = m.first; coming = record { outcome = coming_of X.tree D m.coming; own = X.own; searches = X.searches } }

-- The changes and what comes beside them are what mending makes of each tree with searches that is shown and of which this is known. All that changes may be written.
pub record ComesMended {A : Type 0} (old new : Sight A) (known : Searching → Type 0) (step : Searching → Answer Mending) (result : Result MendingBeside Stop) : Type 0 where
  pub says : (X : Searching) → old.shows X.tree → known X → Says (mending_beside X new.changed) (step X) result
  pub fits : OnOk result (all_fit new.changed ≡ true)

-- what was made is what mending the search of this folder comes to in each whole tree with searches that there is
abbrev pub ComesToMend : (Searching → Type 0) → ℕ → Result SearchMending Stop → Type 0
ComesToMend has f result = (X : Searching) → has X → IsWhole X.tree → Says (mending_of X) (mended_search X f) result

-- the result is what the step makes of each whole tree that is shown
pub record AnswersWhole {A Y : Type 0} (desk : Sight A) (step : Tree → Answer Y) (result : Result Y Stop) : Type 0 where
  pub says : (T : Tree) → desk.shows T → IsWhole T → Says (λ y. y) (step T) result

-- The mending of this folder's search was planned as the definition says, and there is room for what it writes; or why not.
abbrev pub PlansMending : {P : Type 0} → Room → Searching → ℕ → (Mending → P → Type 0) → Result P MendStop → Type 0
PlansMending room X f plans (Ok planned) = (m : Mending) × (mended_search X f ≡ Ok m) × plans m planned × HasRoom room m.coming.outcome.changed
PlansMending room X f plans (Err stop) = StopsMending room X f stop
