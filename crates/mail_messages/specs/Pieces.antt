-- The ends of the commands on messages, on a message that was found.
use Rattle.std.specs.Prelude.{ℕ, None, Some}
use Rattle.command_text.specs.declared.reply.LastLine.TheVariants.{Done}
use Rattle.mapi_values.specs.Messages.{Mes}
use Rattle.mail_objects.specs.declared.object.Object.TheVariants as objects
use Rattle.mail_tree.specs.Tree.{Tree}
use Rattle.mail_tree.specs.Changing.{Answer, Changed, ◌>>=◌, add_shown, contents, drop_shown, found, nothing, put_shown, with_object}
use Rattle.mail_tree.specs.Settling.{settled}
use Rattle.mail_tree.specs.Folders.{Outcome, changing, replied}
use Rattle.mail_tree.specs.Messages.{in_folder}

-- the row of a message shows it as it is now, and its folder is counted anew
unfoldable pub showing_message : Tree → Mes → Answer Changed
showing_message T m = put_shown T (contents m.folder) m.nid m.props (with_object m.nid (Some (objects.Message m)) nothing) >>= settled T T.places m.folder

-- the message goes from its folder into another, and both are counted anew
unfoldable pub moving_message : Tree → ℕ → ℕ → Mes → Answer Outcome
moving_message T m folder M = drop_shown T (contents M.folder) m (with_object m (Some (objects.Message (in_folder folder M))) nothing) >>= λ D.
    add_shown T (contents folder) m M.props D >>= settled T T.places M.folder >>= settled T T.places folder >>= changing T (replied Done)

-- the message goes, and its folder is counted anew
unfoldable pub removing_message : Tree → ℕ → ℕ → Answer Outcome
removing_message T m folder = drop_shown T (contents folder) m (with_object m None nothing) >>= settled T T.places folder >>= changing T (replied Done)
