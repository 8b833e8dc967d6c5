-- What is known of objects after changes.
use Rattle.std.specs.Prelude.{◌≡◌, ℕ, true, List, [], ◌∷◌, Option, None, Some, IsSome, if◌then◌else◌}
use Rattle.std.specs.FinMap as map
use Rattle.mail_objects.specs.declared.object.Object.{Object}
use Rattle.mail_tree.specs.Changing.{Changed}
use Rattle.mail_tree.specs.declared.note.Note.{Note}
use Rattle.mail_tree.specs.Flags.{FlagList, has_room, known_note}
use Rattle.mail_draft.specs.Unread.{note_of}

-- there is an entry for the object, if something is to be known of it
abbrev pub GetsRoom : FlagList → ℕ × Option Note → Type 0
GetsRoom flags change = IsSome change.1 → has_room change.0 flags ≡ true

-- there is one for each object of which something is to be known
abbrev pub HasRooms : FlagList → List (ℕ × Option Note) → Type 0
HasRooms flags [] = Unit {0}
HasRooms flags (c ∷ cs) = GetsRoom flags c × HasRooms flags cs

-- what is known of an id after this was put there or removed, if anything was: what the object says, or what was known before
abbrev pub newly_known : Option (Option Object) → Option Note → Option Note
newly_known None before = before
newly_known (Some object) before = note_of object

-- what is known of an object after changes, where there is an entry for it
abbrev pub note_after : Changed → ℕ → FlagList → Option Note
note_after D q flags = if has_room q flags then newly_known (map.get D.objects q) (known_note q flags) else None
