-- Which messages are unread and what folders are named, as far as it is known.
use Rattle.std.specs.Prelude.{◌≡◌, ℕ, Bool, false, not, List, Option, None, Some}
use Rattle.std.specs.Option.{is_some}
use Rattle.std.specs.Map.{lookup}
use Rattle.std.specs.BTreeMap.{is_at}
use Rattle.std.specs.Ordering.{nat_cmp}
use Rattle.mapi_values.specs.Characters.{folded}
use Rattle.mapi_values.specs.Messages.{Mes}
use Rattle.mail_objects.specs.Forms.{Ctx}
use Rattle.mail_objects.specs.declared.object.Object.{Object}
use Rattle.mail_objects.specs.declared.object.Object.TheVariants.{Context, Message}
use Rattle.mail_tree.specs.declared.note.Note.{Note}
use Rattle.mail_tree.specs.declared.note.Note.TheVariants.{Named, Unread}
use Rattle.mail_tree.specs.Values.{is_read, name_of}

-- objects by their ids, each with what is known of it, or with nothing that is known
abbrev pub FlagList : Type 0
FlagList = List (ℕ × Option Note)

-- what an entry says, nothing where there is none
abbrev pub told : Option (Option Note) → Option Note
told None = None
told (Some note) = note

-- what is known of an object
abbrev pub known_note : ℕ → FlagList → Option Note
known_note q flags = told (lookup (is_at (nat_cmp q)) flags)

-- what is known says whether a message is unread
abbrev pub unread_told : Option Note → Option Bool
unread_told (Some (Unread unread)) = Some unread
unread_told other = None

-- what is known says what a folder is named
abbrev pub name_told : Option Note → Option (List ℕ)
name_told (Some (Named name)) = Some name
name_told other = None

-- whether a message is unread, as far as it is known
abbrev pub known_flag : ℕ → FlagList → Option Bool
known_flag m flags = unread_told (known_note m flags)

-- a folder's name with its case folded, as far as it is known
abbrev pub known_name : ℕ → FlagList → Option (List ℕ)
known_name f flags = name_told (known_note f flags)

-- there is an entry for the object
abbrev pub has_room : ℕ → FlagList → Bool
has_room q flags = is_some (lookup (is_at (nat_cmp q)) flags)

-- the same is known of each object
abbrev pub SameFlags : FlagList → FlagList → Type 0
SameFlags old new = (q : ℕ) → known_note q new ≡ known_note q old

-- what stands there is as a note says: a message that is unread or not, or properties with a name that is this when its case is folded
abbrev pub IsNoted : Note → Option Object → Type 0
IsNoted (Unread unread) object = (M : Mes) × (object ≡ Some (Message M)) × (not (is_read M.props) ≡ unread)
IsNoted (Named name) object = (c : Ctx) × (object ≡ Some (Context c)) × (folded false (name_of c.props) ≡ name)

-- each object of which something is known stands there, and is as it is known
abbrev pub AreFlags : (ℕ → Option Object) → FlagList → Type 0
AreFlags at flags = (q : ℕ) (note : Note) → known_note q flags ≡ Some note → IsNoted note (at q)
