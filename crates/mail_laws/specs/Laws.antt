-- What each command does, in the words of mail.
use Rattle.std.specs.Prelude.{◌≡◌, ℕ, ◌++◌, Bool, true, false, not, IfOk, List, filter, length, Option, None, Some, Ok}
use Rattle.std.specs.List.{list_any}
use Rattle.pst_base.specs.declared.ids.Nid.{Nid}
use Rattle.mapi_values.specs.Messages.{Mes}
use Rattle.mapi_values.specs.Properties.{ascend_from, find}
use Rattle.mapi_values.specs.Tables.{find_row, mirror}
use Rattle.mapi_values.specs.Values.{Val}
use Rattle.mapi_values.specs.declared.part.Part.{Part}
use Rattle.mapi_values.specs.declared.value.Tag.{Tag}
use Rattle.command_text.specs.declared.command.Command.{Command}
use Rattle.command_text.specs.declared.command.Held.{Held}
use Rattle.command_text.specs.declared.command.Command.TheVariants.{MakeFolder, RenameFolder, MoveFolder, RemoveFolder, ListFolder, NewMessage, SetProperty, UnsetProperty, GetProperty, ListProperties, MoveMessage, CopyMessage, RemoveMessage, AddRecipient, RemoveRecipient, AddAttachment, AppendData, RemoveAttachment, FetchData, Save, Quit, NameProperty, SetEmbedded}
use Rattle.command_text.specs.declared.reply.LastLine.TheVariants.{Attached, Made, Row, Value, Named}
use Rattle.mail_objects.specs.Forms.{Ctx, Tbl}
use Rattle.mail_objects.specs.declared.object.Object.{Object}
use Rattle.mail_objects.specs.declared.object.Object.TheVariants.{Context, Message, Table}
use Rattle.mail_tree.specs.declared.places.FolderPlace.{FolderPlace}
use Rattle.mail_tree.specs.Places.{ROOT, find_place, is_child, is_plain}
use Rattle.mail_tree.specs.Tree.{Tree, object_at}
use Rattle.mail_tree.specs.Values.{bytes_of, is_read, number, text, time_value, truth, with_props}
use Rattle.mail_tree.specs.Changing.{as_message, contents, hierarchy}
use Rattle.mail_tree.specs.Settling.{message_ids}
use Rattle.mail_tree.specs.Folders.{Outcome, place, replied, unchanged}
use Rattle.mail_tree.specs.Names.{NAMES, names_in}
use Rattle.named_props.specs.Finding.{guids_known, name_at}
use Rattle.named_props.specs.declared.names.Names.{Names}
use Rattle.mail_tree.specs.Messages.{copy_of, in_folder}
use Rattle.mail_tree.specs.Parts.{new_part, part_in, part_with, recipient_props, rows_of, with_attachment, with_bytes, with_part, with_recipient, without_attachment, without_recipient, part_holding}
use Rattle.mail_tree.specs.Step.{after, outcome}
use Rattle.mail_tree.specs.Whole.{IsWhole}
use Rattle.pst_base.specs.declared.subs.Sub.{Sub}

-- the message with this id, if there is one
abbrev pub message_with : Tree → ℕ → Option Mes
message_with T m = as_message (object_at T m)

-- this message is now so, or there is none, and each other is as it was
pub record OnlyMessage (T T' : Tree) (m : ℕ) (now : Option Mes) : Type 0 where
  pub here : message_with T' m ≡ now
  pub others : (k : ℕ) → (k ≡ m → ⊥) → message_with T' k ≡ message_with T k
  pub places : T'.places ≡ T.places

-- this folder now stands so, or there is none, each other stands where it stood, and each message is as it was
pub record OnlyPlace (T T' : Tree) (f : ℕ) (now : Option FolderPlace) : Type 0 where
  pub here : find_place f T'.places ≡ now
  pub others : (g : ℕ) → (g ≡ f → ⊥) → find_place g T'.places ≡ find_place g T.places
  pub messages : (k : ℕ) → message_with T' k ≡ message_with T k

-- the values but for those of the flags, of the size and of this id are the same
abbrev pub SameButFor : ℕ → List Val → List Val → Type 0
SameButFor own old new = (id : ℕ) → (id ≡ 0x0E07 → ⊥) → (id ≡ 0x0E08 → ⊥) → (id ≡ own → ⊥) → find id new ≡ find id old

-- after `rm` the message is gone, and all else is as it was
abbrev pub Removes : Type 0
Removes = (T : Tree) (m : Nid) → IsWhole T → IfOk (outcome T (RemoveMessage m)) (λ o. OnlyMessage T (after T o) m.bits None)

-- after `mv` the message is in that folder, with all that it had
abbrev pub Moves : Type 0
Moves = (T : Tree) (m folder : Nid) → IsWhole T
    → IfOk (outcome T (MoveMessage m folder)) (λ o. (M : Mes) × (message_with T m.bits ≡ Some M) × OnlyMessage T (after T o) m.bits (Some (in_folder folder.bits M)))

-- after `cp` there is a message with the id that is replied, in that folder, with all that the other has
abbrev pub Copies : Type 0
Copies = (T : Tree) (m folder : Nid) → IsWhole T → IfOk (outcome T (CopyMessage m folder)) (λ o. (M : Mes) × (n : Nid) × (message_with T m.bits ≡ Some M) × (o.reply ≡ replied (Made n))
    × (object_at T n.bits ≡ None) × OnlyMessage T (after T o) n.bits (Some (copy_of n.bits folder.bits M)))

-- after `new` there is a message with the id that is replied, in that folder, of that class and time
abbrev pub MakesMessage : Type 0
MakesMessage = (T : Tree) (folder : Nid) (class : List ℕ) (time : ℕ) (values : List Val) → IsWhole T → IfOk (outcome T (NewMessage folder class time values)) (λ o. (n : Nid) × (M : Mes) × (o.reply ≡ replied (Made n))
    × (object_at T n.bits ≡ None) × OnlyMessage T (after T o) n.bits (Some M) × (M.folder ≡ folder.bits) × (find 0x001A M.props ≡ Some (text 0x001A class)) × (find 0x3007 M.props ≡ Some (time_value 0x3007 time)))

-- after `set` the message has the value, but for a bit of its flags that follows its attachments, and its other values but for its size, and all else that it had
abbrev pub Sets : Type 0
Sets = (T : Tree) (m : Nid) (v : Val) → IsWhole T → IfOk (outcome T (SetProperty m v)) (λ o. (M : Mes) × (props : List Val) × (message_with T m.bits ≡ Some M) × OnlyMessage T (after T o) m.bits (Some (with_props props M))
    × ((v.id ≡ 0x0E07 → ⊥) → find v.id props ≡ Some v) × SameButFor v.id M.props props)

-- after `unset` the message, whose values ascend as those of each node do, hasn't the value, and has its others but for its size, and all else that it had
abbrev pub Unsets : Type 0
Unsets = (T : Tree) (m : Nid) (tag : Tag) → IsWhole T → IfOk (outcome T (UnsetProperty m tag)) (λ o. (M : Mes) × (props : List Val) × (message_with T m.bits ≡ Some M) × OnlyMessage T (after T o) m.bits (Some (with_props props M))
    × (ascend_from 0 M.props ≡ true → find tag.id props ≡ None) × SameButFor tag.id M.props props)

-- after `rcpt` the message has a recipient of this type, address and name in the row that is replied, which none had, and its others, its other values but for flags and size, and all else that it had
abbrev pub AddsRecipient : Type 0
AddsRecipient = (T : Tree) (m : Nid) (kind : ℕ) (address name : List ℕ) → IsWhole T → IfOk (outcome T (AddRecipient m kind address name)) (λ o. (M : Mes) × (row : ℕ) × (props : List Val) × (message_with T m.bits ≡ Some M)
    × OnlyMessage T (after T o) m.bits (Some (with_props props (with_recipient row (recipient_props kind address name) M))) × (o.reply ≡ replied (Row row)) × (find_row row (rows_of M.recipients) ≡ None) × SameButFor 0x0E08 M.props props)

-- after `unrcpt` the message has no recipient in this row, and its others, its other values but for flags and size, and all else that it had
abbrev pub RemovesRecipient : Type 0
RemovesRecipient = (T : Tree) (m : Nid) (row : ℕ) → IsWhole T → IfOk (outcome T (RemoveRecipient m row)) (λ o. (M : Mes) × (props : List Val) × (message_with T m.bits ≡ Some M)
    × OnlyMessage T (after T o) m.bits (Some (with_props props (without_recipient row M))) × SameButFor 0x0E08 M.props props)

-- after `attach` or `embed` the message has an attachment of this name that holds this under the id that is replied, which none had, and its others, its other values but for flags and size, and all else that it had
abbrev pub AddsAttachment : Type 0
AddsAttachment = (T : Tree) (m : Nid) (name : List ℕ) (held : Held) → IsWhole T → IfOk (outcome T (AddAttachment m name held)) (λ o. (M : Mes) × (n : Nid) × (props : List Val) × (message_with T m.bits ≡ Some M)
    × OnlyMessage T (after T o) m.bits (Some (with_props props (with_attachment (new_part n name held) M))) × (o.reply ≡ replied (Attached n)) × (part_in n.bits M ≡ None) × SameButFor 0x0E08 M.props props)

-- after `append` the attachment has these bytes behind those that it had, and the message its others, its other values but for flags and size, and all else that it had
abbrev pub AppendsData : Type 0
AppendsData = (T : Tree) (m n : Nid) (bytes : List ℕ) → IsWhole T → IfOk (outcome T (AppendData m n bytes)) (λ o. (M : Mes) × (part : Part) × (old : List ℕ) × (props : List Val) × (message_with T m.bits ≡ Some M)
    × (part_in n.bits M ≡ Some part) × (bytes_of 0x3701 0x0102 part.props ≡ Some old) × OnlyMessage T (after T o) m.bits (Some (with_props props (with_part (part_with (with_bytes (old ++ bytes) part.props) part) M))) × SameButFor 0x0E08 M.props props)

-- after `eset` and `eunset` the attachment has this subnode in place of the one of its id, and all else that it had, and the message its others, its other values but for flags and size, and all else that it had
abbrev pub SetsEmbedded : Type 0
SetsEmbedded = (T : Tree) (m n : Nid) (node : Sub) → IsWhole T → IfOk (outcome T (SetEmbedded m n node)) (λ o. (M : Mes) × (part : Part) × (props : List Val) × (message_with T m.bits ≡ Some M)
    × (part_in n.bits M ≡ Some part) × OnlyMessage T (after T o) m.bits (Some (with_props props (with_part (part_holding node part) M))) × SameButFor 0x0E08 M.props props)

-- after `detach` the message has no such attachment, and its others, its other values but for flags and size, and all else that it had
abbrev pub RemovesAttachment : Type 0
RemovesAttachment = (T : Tree) (m n : Nid) → IsWhole T → IfOk (outcome T (RemoveAttachment m n)) (λ o. (M : Mes) × (props : List Val) × (message_with T m.bits ≡ Some M)
    × OnlyMessage T (after T o) m.bits (Some (with_props props (without_attachment n.bits M))) × SameButFor 0x0E08 M.props props)

-- `get` after `set` replies the value that was set
abbrev pub GetsWhatWasSet : Type 0
GetsWhatWasSet = (T : Tree) (m : Nid) (v : Val) → IsWhole T → (v.id ≡ 0x0E07 → ⊥)
    → IfOk (outcome T (SetProperty m v)) (λ o. let T' = after T o in outcome T' (GetProperty m (record { id = v.id; kind = v.kind })) ≡ Ok (unchanged T' (replied (Value v))))

-- the folder has this name
abbrev pub IsNamed : Tree → ℕ → List ℕ → Type 0
IsNamed T f name = (c : Ctx) × (object_at T f ≡ Some (Context c)) × (find 0x3001 c.props ≡ Some (text 0x3001 name))

-- after `mkdir` there is a folder with the id that is replied, in that one, of that name
abbrev pub MakesFolder : Type 0
MakesFolder = (T : Tree) (parent : Nid) (name : List ℕ) → IsWhole T → IfOk (outcome T (MakeFolder parent name)) (λ o. (f : Nid) × (o.reply ≡ replied (Made f))
    × (object_at T f.bits ≡ None) × OnlyPlace T (after T o) f.bits (Some (place f.bits parent.bits)) × IsNamed (after T o) f.bits name)

-- after `rename` the folder has that name, and stands where it stood
abbrev pub RenamesFolder : Type 0
RenamesFolder = (T : Tree) (f : Nid) (name : List ℕ) → IsWhole T
    → IfOk (outcome T (RenameFolder f name)) (λ o. (p : FolderPlace) × (find_place f.bits T.places ≡ Some p) × OnlyPlace T (after T o) f.bits (Some p) × IsNamed (after T o) f.bits name)

-- after `mvdir` the folder stands in that one
abbrev pub MovesFolder : Type 0
MovesFolder = (T : Tree) (f parent : Nid) → IsWhole T → IfOk (outcome T (MoveFolder f parent)) (λ o. OnlyPlace T (after T o) f.bits (Some (place f.bits parent.bits)))

-- after `rmdir` there is no such folder
abbrev pub RemovesFolder : Type 0
RemovesFolder = (T : Tree) (f : Nid) → IsWhole T → IfOk (outcome T (RemoveFolder f)) (λ o. OnlyPlace T (after T o) f.bits None)

-- the command only looks, or ends a file's session
abbrev pub only_reads : Command → Bool
only_reads (ListFolder folder) = true
only_reads (GetProperty message tag) = true
only_reads (ListProperties message) = true
only_reads (FetchData message attachment) = true
only_reads Save = true
only_reads Quit = true
only_reads other = false

-- `ls`, `get`, `props`, `fetch`, `save` and `quit` change nothing
abbrev pub Reads : Type 0
Reads = (T : Tree) (c : Command) → only_reads c ≡ true → IfOk (outcome T c) (λ o. o ≡ unchanged T o.reply)

-- the table has a row of this id that mirrors these values
abbrev pub Shows : Option Object → ℕ → List Val → Type 0
Shows object id props = (t : Tbl) × (object ≡ Some (Table t)) × (find_row id t.table.rows ≡ Some (id, mirror t.table.columns props))

-- each folder but the root is shown by a row of its parent's table, and each message by one of its folder's
pub record AreShown (places : List FolderPlace) (at : ℕ → Option Object) : Type 0 where
  pub folders : (f : ℕ) (p : FolderPlace) (c : Ctx) → find_place f places ≡ Some p → (f ≡ ROOT → ⊥) → at f ≡ Some (Context c) → Shows (at (hierarchy c.parent)) f c.props
  pub messages : (m : ℕ) (M : Mes) → at m ≡ Some (Message M) → Shows (at (contents M.folder)) m M.props

-- the rows of a tree mirror what they show
abbrev pub Mirrors : Tree → Type 0
Mirrors T = AreShown T.places (object_at T)

-- where rows mirror what they show they do so after each command
abbrev pub MirrorsStay : Type 0
MirrorsStay = (T : Tree) (c : Command) → IsWhole T → Mirrors T → IfOk (outcome T c) (λ o. Mirrors (after T o))

-- what stands there is a message that wasn't read
abbrev pub is_unread : Option Object → Bool
is_unread (Some (Message m)) = not (is_read m.props)
is_unread other = false

-- a folder's values tell how many messages its table lists, how many of them weren't read, and whether it has folders
pub record IsCounted (places : List FolderPlace) (at : ℕ → Option Object) (f : ℕ) (c : Ctx) (t : Tbl) : Type 0 where
  pub messages : find 0x3602 c.props ≡ Some (number 0x3602 (length (message_ids t.table)))
  pub unread : find 0x3603 c.props ≡ Some (number 0x3603 (length (filter (λ m. is_unread (at m)) (message_ids t.table))))
  pub folders : find 0x360A c.props ≡ Some (truth 0x360A (list_any (is_child f) places))

-- each plain folder's counts are right, but for these
abbrev pub AreCountedBut : (ℕ → Type 0) → List FolderPlace → (ℕ → Option Object) → Type 0
AreCountedBut E places at = (f : ℕ) (p : FolderPlace) (c : Ctx) (t : Tbl) → find_place f places ≡ Some p → is_plain p ≡ true → (E f → ⊥) → at f ≡ Some (Context c) → at (contents f) ≡ Some (Table t) → IsCounted places at f c t

-- the counts of each plain folder are right
abbrev pub Counts : Tree → Type 0
Counts T = AreCountedBut (λ f. ⊥) T.places (object_at T)

-- the counts of this plain folder are right
abbrev pub CountsOf : Tree → ℕ → Type 0
CountsOf T f = AreCountedBut (λ g. g ≡ f → ⊥) T.places (object_at T)

-- where counts are right they are so after each command
abbrev pub CountsStay : Type 0
CountsStay = (T : Tree) (c : Command) → IsWhole T → Counts T → IfOk (outcome T c) (λ o. Counts (after T o))

-- the counts of each folder in which a message or a folder came, changed or went are right after the command, whatever they were; those of a new folder too
pub record CountsAnew : Type 0 where
  pub makes : (T : Tree) (folder : Nid) (class : List ℕ) (time : ℕ) (values : List Val) → IsWhole T → IfOk (outcome T (NewMessage folder class time values)) (λ o. CountsOf (after T o) folder.bits)
  pub copies : (T : Tree) (m folder : Nid) → IsWhole T → IfOk (outcome T (CopyMessage m folder)) (λ o. CountsOf (after T o) folder.bits)
  pub sets : (T : Tree) (m : Nid) (v : Val) → IsWhole T → IfOk (outcome T (SetProperty m v)) (λ o. (M : Mes) × (message_with T m.bits ≡ Some M) × CountsOf (after T o) M.folder)
  pub unsets : (T : Tree) (m : Nid) (tag : Tag) → IsWhole T → IfOk (outcome T (UnsetProperty m tag)) (λ o. (M : Mes) × (message_with T m.bits ≡ Some M) × CountsOf (after T o) M.folder)
  pub removes : (T : Tree) (m : Nid) → IsWhole T → IfOk (outcome T (RemoveMessage m)) (λ o. (M : Mes) × (message_with T m.bits ≡ Some M) × CountsOf (after T o) M.folder)
  pub adds_recipient : (T : Tree) (m : Nid) (kind : ℕ) (address name : List ℕ) → IsWhole T → IfOk (outcome T (AddRecipient m kind address name)) (λ o. (M : Mes) × (message_with T m.bits ≡ Some M) × CountsOf (after T o) M.folder)
  pub removes_recipient : (T : Tree) (m : Nid) (row : ℕ) → IsWhole T → IfOk (outcome T (RemoveRecipient m row)) (λ o. (M : Mes) × (message_with T m.bits ≡ Some M) × CountsOf (after T o) M.folder)
  pub adds_attachment : (T : Tree) (m : Nid) (name : List ℕ) (held : Held) → IsWhole T → IfOk (outcome T (AddAttachment m name held)) (λ o. (M : Mes) × (message_with T m.bits ≡ Some M) × CountsOf (after T o) M.folder)
  pub appends_data : (T : Tree) (m n : Nid) (bytes : List ℕ) → IsWhole T → IfOk (outcome T (AppendData m n bytes)) (λ o. (M : Mes) × (message_with T m.bits ≡ Some M) × CountsOf (after T o) M.folder)
  pub sets_embedded : (T : Tree) (m n : Nid) (node : Sub) → IsWhole T → IfOk (outcome T (SetEmbedded m n node)) (λ o. (M : Mes) × (message_with T m.bits ≡ Some M) × CountsOf (after T o) M.folder)
  pub removes_attachment : (T : Tree) (m n : Nid) → IsWhole T → IfOk (outcome T (RemoveAttachment m n)) (λ o. (M : Mes) × (message_with T m.bits ≡ Some M) × CountsOf (after T o) M.folder)
  pub moves : (T : Tree) (m folder : Nid) → IsWhole T → IfOk (outcome T (MoveMessage m folder)) (λ o. (M : Mes) × (message_with T m.bits ≡ Some M) × ((M.folder ≡ folder.bits → ⊥) → CountsOf (after T o) M.folder × CountsOf (after T o) folder.bits))
  pub makes_folder : (T : Tree) (parent : Nid) (name : List ℕ) → IsWhole T → IfOk (outcome T (MakeFolder parent name)) (λ o. (f : Nid) × (o.reply ≡ replied (Made f)) × CountsOf (after T o) f.bits × CountsOf (after T o) parent.bits)
  pub moves_folder : (T : Tree) (f parent : Nid) → IsWhole T → IfOk (outcome T (MoveFolder f parent)) (λ o. (p : FolderPlace) × (find_place f.bits T.places ≡ Some p) × ((p.parent.bits ≡ parent.bits → ⊥) → CountsOf (after T o) p.parent.bits × CountsOf (after T o) parent.bits))
  pub removes_folder : (T : Tree) (f : Nid) → IsWhole T → IfOk (outcome T (RemoveFolder f)) (λ o. (p : FolderPlace) × (find_place f.bits T.places ≡ Some p) × CountsOf (after T o) p.parent.bits)

-- After `name` the property that is replied is that of the name, each name that was there keeps its property, if no entry names an index that no GUID has, and all but the names is as it was.
pub record FindsName (T : Tree) (guid : List ℕ) (number : ℕ) (o : Outcome) : Type 0 where
  pub old : Names
  pub new : Names
  pub property : ℕ
  pub was : names_in T ≡ Ok old
  pub is : names_in (after T o) ≡ Ok new
  pub reply : o.reply ≡ replied (Named property)
  pub finds : guids_known old.guids old.entries ≡ true → name_at new.guids new.entries guid number ≡ Some property
  pub keeps : guids_known old.guids old.entries ≡ true → (other : List ℕ) (id kept : ℕ) → name_at old.guids old.entries other id ≡ Some kept → name_at new.guids new.entries other id ≡ Some kept
  pub others : (q : ℕ) → (q ≡ NAMES → ⊥) → object_at (after T o) q ≡ object_at T q
  pub places : o.places ≡ T.places

-- so does each `name`
abbrev pub NamesProperty : Type 0
NamesProperty = (T : Tree) (guid : List ℕ) (number : ℕ) → IsWhole T → IfOk (outcome T (NameProperty guid number)) (FindsName T guid number)
