-- What a line comes to on a desk.
use Rattle.std.specs.Prelude.{◌≡◌, true, Result, OnOk}
use Rattle.mail_tree.specs.Tree.{Tree}
use Rattle.mail_tree.specs.Changing.{Answer, Changed}
use Rattle.mail_tree.specs.Folders.{Outcome}
use Rattle.mail_draft.specs.declared.coming.Coming.{Coming}
use Rattle.mail_draft.specs.declared.stop.Stop.{Stop}
use Rattle.mail_draft.specs.Answers.{Says}
use Rattle.mail_draft.specs.Drafts.{all_fit}
use Rattle.mail_draft.specs.Outcomes.{last_after, places_after}
use Rattle.mail_draft.specs.Sight.{Sight}

-- what comes beside the changes makes the outcome on a tree
abbrev pub coming_of : Tree → Changed → Coming → Outcome
coming_of T changed coming =
    record { changed = changed; places = places_after T.places coming.places; last = last_after T.last coming.last; reply = coming.reply }

-- The changes and what comes beside them are what the step makes of each tree that is shown and of the changes so far. All that changes may be written.
pub record Comes {A : Type 0} (old new : Sight A) (step : Tree → Changed → Answer Outcome) (result : Result Coming Stop) : Type 0 where
  pub says : (T : Tree) → old.shows T → Says (coming_of T new.changed) (step T old.changed) result
  pub fits : OnOk result (all_fit new.changed ≡ true)
