-- What is told of the messages that a command touches.
use Rattle.std.specs.Prelude.{◌≡◌, ℕ, Ok, Result}
use Rattle.std.specs.FinMap as map
use Rattle.std.specs.Global.{Vec}
use Rattle.std.specs.Option.{is_some}
use Rattle.command_text.specs.declared.command.Command.{Command}
use Rattle.mail_draft.specs.Answers.{Says}
use Rattle.mail_draft.specs.Desks.{coming_of}
use Rattle.mail_draft.specs.Sight.{Sight}
use Rattle.mail_draft.specs.declared.coming.Coming.{Coming}
use Rattle.mail_draft.specs.declared.stop.Stop.{Stop}
use Rattle.mail_searches.specs.Relisting.{Touch}
use Rattle.mail_searches.specs.Touching.{touched}
use Rattle.mail_tree.specs.Changing.{Changed, as_message, now_at}
use Rattle.mail_tree.specs.Step.{outcome}
use Rattle.mail_tree.specs.Tree.{Tree, object_at}
use Rattle.search_results.specs.Forms.{Stood, touched_by}
use Rattle.search_results.specs.declared.forms.TouchForm.{TouchForm}

-- the message with this id, before and after these changes
abbrev pub touch_after : Tree → Changed → ℕ → Touch
touch_after T D m = record { nid = m; old = as_message (object_at T m); new = as_message (now_at T D m); anew = is_some (map.get D.objects m) }

-- These are the messages that a command of this form touches, where the one that it names stood in the tree, and the one that it made didn't.
pub record Touches {A : Type 0} (desk : Sight A) (form : TouchForm) (coming : Coming) (result : Result (Vec Touch) Stop) : Type 0 where
  pub says : (T : Tree) → desk.shows T → Stood T form (coming_of T desk.changed coming) → Says (λ ts. ts.items) (touched_by T form (coming_of T desk.changed coming)) result

-- These are the messages that a command touches, where it came to this in the tree.
pub record TouchedBy {A : Type 0} (desk : Sight A) (command : Command) (coming : Coming) (result : Result (Vec Touch) Stop) : Type 0 where
  pub says : (T : Tree) → desk.shows T → outcome T command ≡ Ok (coming_of T desk.changed coming) → Says (λ ts. ts.items) (touched T command (coming_of T desk.changed coming)) result
