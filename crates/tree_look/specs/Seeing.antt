-- What is known of the messages and folders that a look has seen.
use Rattle.std.specs.Prelude.{◌≡◌, ◌⊎◌, ℕ, Bool, true, false, not, List, None, Some}
use Rattle.mapi_values.specs.Characters.{folded}
use Rattle.mapi_values.specs.Messages.{Mes}
use Rattle.mail_objects.specs.Forms.{Ctx}
use Rattle.mail_tree.specs.Flags.{FlagList, known_flag, known_note}
use Rattle.mail_tree.specs.Places.{find_place, is_plain}
use Rattle.mail_tree.specs.Standing.{HasContext, HasMail, ListsMessage}
use Rattle.mail_tree.specs.Values.{is_read, name_of}
use Rattle.mail_tree.specs.declared.note.Note.{Note}
use Rattle.mail_tree.specs.declared.note.Note.TheVariants.{Named, Unread}
use Rattle.mail_tree.specs.declared.places.FolderPlace.{FolderPlace}
use Rattle.node_port.specs.Nodes.{Nodes}
use Rattle.tree_look.specs.Faults.{IsOpened, IsReached}

-- the node is a message that is unread, or one that isn't
abbrev pub IsUnread : Nodes → ℕ → Bool → Type 0
IsUnread N m unread = (M : Mes) × HasMail N m M × (not (is_read M.props) ≡ unread)

-- the node is properties with a name that is this when its case is folded
abbrev pub IsNamedAs : Nodes → ℕ → List ℕ → Type 0
IsNamedAs N f name = (c : Ctx) × HasContext N f c × (folded false (name_of c.props) ≡ name)

-- rows lead to what a note says: a message that a plain folder lists is unread or not, or a folder has the name
abbrev pub IsSeenAs : Nodes → ℕ → Note → Type 0
IsSeenAs N m (Unread unread) = (f : ℕ) × IsOpened N f × ListsMessage N f m × IsUnread N m unread
IsSeenAs N f (Named name) = (n : ℕ) × IsReached N n f × IsNamedAs N f name

-- all that is known was seen
abbrev pub AreSeen : Nodes → FlagList → Type 0
AreSeen N flags = (q : ℕ) (note : Note) → known_note q flags ≡ Some note → IsSeenAs N q note

-- what comes to be known is so, if what was known is
abbrev pub Learns : Nodes → FlagList → FlagList → Type 0
Learns N old new = AreSeen N old → AreSeen N new

-- these places have what a note says: a message that a plain folder of them lists is unread or not, or a folder of them has the name
abbrev pub IsListedAs : Nodes → List FolderPlace → ℕ → Note → Type 0
IsListedAs N places m (Unread unread) = (f : ℕ) × ((p : FolderPlace) × (find_place f places ≡ Some p) × (is_plain p ≡ true)) × ListsMessage N f m × IsUnread N m unread
IsListedAs N places f (Named name) = (p : FolderPlace) × (find_place f places ≡ Some p) × IsNamedAs N f name

-- all that is known is of these places
abbrev pub AreListed : Nodes → List FolderPlace → FlagList → Type 0
AreListed N places flags = (q : ℕ) (note : Note) → known_note q flags ≡ Some note → IsListedAs N places q note

-- something is known of the message
abbrev pub IsKnown : FlagList → ℕ → Type 0
IsKnown flags m = (unread : Bool) × (known_flag m flags ≡ Some unread)

-- what was known of messages stays known
abbrev pub StaysKnown : FlagList → FlagList → Type 0
StaysKnown old new = (m : ℕ) → IsKnown old m → IsKnown new m

-- of each message that a plain folder of these places lists something is known
abbrev pub AreKnown : Nodes → List FolderPlace → FlagList → Type 0
AreKnown N places flags = (f m : ℕ) → ((p : FolderPlace) × (find_place f places ≡ Some p) × (is_plain p ≡ true)) → ListsMessage N f m → (unread : Bool) × (known_flag m flags ≡ Some unread)

-- a folder's name is known, or it is known whether a message of that id is unread; all else stays known
abbrev pub KeepsName : ℕ → List ℕ → FlagList → FlagList → Type 0
KeepsName f name old new = (q : ℕ) → (known_note q new ≡ known_note q old) ⊎ ((known_flag q old ≡ None) × (q ≡ f) × (known_note q new ≡ Some (Named name)))
