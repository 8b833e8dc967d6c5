-- Messages that are unread, and what objects make known.
use Rattle.std.specs.Prelude.{ℕ, Bool, false, not, List, map, Option, None, Some, Ok, option_map}
use Rattle.std.specs.FinMap as finmap
use Rattle.mapi_values.specs.Characters.{folded}
use Rattle.mapi_values.specs.Messages.{Mes}
use Rattle.mail_objects.specs.declared.object.Object.{Object}
use Rattle.mail_objects.specs.declared.object.Object.TheVariants.{Context, Message}
use Rattle.mail_tree.specs.declared.note.Note.{Note}
use Rattle.mail_tree.specs.declared.note.Note.TheVariants.{Named, Unread}
use Rattle.mail_tree.specs.Changing.{Answer, Changed, ◌>>=◌, as_message, known}
use Rattle.mail_tree.specs.Values.{is_read, name_of}

-- whether what stands there is an unread message
abbrev pub unread_of : Option Object → Answer Bool
unread_of object = known (as_message object) >>= λ M. Ok (not (is_read M.props))

-- whether an object that stands there is an unread message, or nothing where it is no message, or none stands there
abbrev pub flag_of : Option Object → Option Bool
flag_of object = option_map (λ (M : Mes). not (is_read M.props)) (as_message object)

-- what an object that stands there makes known: of a message whether it is unread, of properties the name among them with its case folded
abbrev pub note_of : Option Object → Option Note
note_of (Some (Message M)) = Some (Unread (not (is_read M.props)))
note_of (Some (Context c)) = Some (Named (folded false (name_of c.props)))
note_of other = None

abbrev pub entry_note : ℕ × Option Object → ℕ × Option Note
entry_note entry = (entry.0, note_of entry.1)

-- what changes make known of all that they put or remove
abbrev pub flag_changes : Changed → List (ℕ × Option Note)
flag_changes D = map entry_note (finmap.entries D.objects)
