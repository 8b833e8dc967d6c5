-- What a command comes to where there are searches, on a desk.
use Rattle.std.specs.Prelude.{◌≡◌, ◌≤◌, ◌+◌, ℕ, List, Ok, OnOk, Result, true}
use Rattle.command_text.specs.declared.command.Command.{Command}
use Rattle.mail_draft.specs.Answers.{Says}
use Rattle.mail_draft.specs.Desks.{coming_of}
use Rattle.mail_draft.specs.Drafts.{all_fit}
use Rattle.mail_draft.specs.Sight.{Sight}
use Rattle.mail_draft.specs.declared.coming.Coming.{Coming}
use Rattle.mail_draft.specs.declared.stop.Stop.{Stop}
use Rattle.mail_searches.specs.Asking.{work_of}
use Rattle.mail_searches.specs.Relisting.{Touch, around, with_searches}
use Rattle.mail_searches.specs.Searches.{Search}
use Rattle.mail_searches.specs.Step.{concluded, if_within}
use Rattle.mail_searches.specs.Touching.{touched}
use Rattle.mail_tree.specs.Changing.{Answer, ◌>>=◌}
use Rattle.mail_tree.specs.Folders.{Outcome}
use Rattle.mail_tree.specs.Step as tree
use Rattle.mail_tree.specs.Tree.{Tree}

-- the lists of searches follow the messages, if what is then written keeps to the limits
abbrev pub settled_within : Tree → List Search → List Touch → Outcome → Answer Outcome
settled_within T ss ts o = with_searches T ss ts o >>= if_within T

-- What the command came to so far in each tree that is shown comes to this where there are these searches: their lists follow the messages that it touches, and all that changes may be written.
-- What it came to is that of the command in the tree, so that a message that it names stood there, and one that it made didn't: of nodes alone that can't be told.
pub record Concludes {A : Type 0} (old new : Sight A) (searches : List Search) (command : Command) (coming : Coming) (result : Result Coming Stop) : Type 0 where
  pub says : (T : Tree) → old.shows T → tree.outcome T command ≡ Ok (coming_of T old.changed coming) → Says (coming_of T new.changed) (concluded T searches command (coming_of T old.changed coming)) result
  pub fits : OnOk result (all_fit new.changed ≡ true)

-- Each running search asks its restriction of the touched messages alone, as they were and as they are.
pub record AsksTouched {A : Type 0} (desk : Sight A) (searches : List Search) (command : Command) (coming : Coming) (before after : ℕ) : Type 0 where
  pub most : (T : Tree) → desk.shows T → tree.outcome T command ≡ Ok (coming_of T desk.changed coming) → (ts : List Touch) → touched T command (coming_of T desk.changed coming) ≡ Ok ts
      → after ≤ before + work_of (around T (coming_of T desk.changed coming)) ts searches
