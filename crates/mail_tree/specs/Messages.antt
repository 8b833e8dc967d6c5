-- The commands on messages: what each refuses, in its order, and what it changes.
use Rattle.std.specs.Prelude.{ℕ, ◌==◌, Bool, not, nat_lt, List, [], ◌++◌, length, map, Option, None, Some, Ok, if◌then◌else◌, ◌||◌}
use Rattle.std.specs.List.{list_any}
use Rattle.std.specs.Option.{option_map, option_and_then, is_some}
use Rattle.pst_base.specs.Ids.{kind_of}
use Rattle.pst_base.specs.declared.subs.Sub.{Sub}
use Rattle.command_text.specs.declared.command.Held.{Held}
use Rattle.node_port.specs.Nodes.{node_at}
use Rattle.node_port.specs.declared.node.NodeRec.{NodeRec}
use Rattle.mapi_values.specs.Messages.{Mes}
use Rattle.mapi_values.specs.Properties.{find, put, remove_id}
use Rattle.mapi_values.specs.Tables.{Tab, find_row}
use Rattle.mapi_values.specs.Values.{Val}
use Rattle.mapi_values.specs.declared.part.Part.{Part}
use Rattle.mapi_values.specs.declared.value.Tag.{Tag}
use Rattle.command_text.specs.declared.reply.CommandRefusal.{CommandRefusal}
use Rattle.command_text.specs.declared.reply.CommandRefusal.TheVariants.{Object, Property, Protected, Limit, Ids}
use Rattle.command_text.specs.declared.reply.Limit.TheVariants.{Rows, Value as LongValue}
use Rattle.command_text.specs.declared.reply.DataLine.{DataLine}
use Rattle.command_text.specs.declared.reply.DataLine.TheVariants as lines
use Rattle.command_text.specs.declared.reply.LastLine.{LastLine}
use Rattle.command_text.specs.declared.reply.LastLine.TheVariants.{Attached, Done, Row, Value}
use Rattle.mail_objects.specs.declared.object.Object.{Object as Obj}
use Rattle.mail_objects.specs.declared.object.Object.TheVariants as objects
use Rattle.mail_tree.specs.Places.{find_place, is_plain}
use Rattle.mail_tree.specs.Tree.{Tree, object_at}
use Rattle.mail_tree.specs.Values.{bytes_of, finished, is_set_protected, is_unset_protected, is_withheld, length_of, message_props, number_of, text_of, with_props}
use Rattle.mail_tree.specs.Changing.{Answer, Changed, ◌>>=◌, add_shown, contents, context_at, drop_shown, found, message_at, nothing, put_shown, refused_if, table_at, with_object}
use Rattle.mail_tree.specs.Settling.{settled, touched}
use Rattle.mail_tree.specs.Parts.{attachment_tags, data_tag, has_recipient, is_full, is_spent_row, is_too_long, is_wide, lengthened, new_row, new_part, next_part, next_row, part_holding, part_in, part_nid, part_with, recipient_props, recipient_tags, room_for, rows_of, with_attachment, with_bytes, with_part, with_recipient, without_attachment, without_recipient}
use Rattle.mail_tree.specs.Ids.{is_spent, message_kinds, new_id, next_index}
use Rattle.mail_tree.specs.Names.{unless_nameless}
use Rattle.mail_tree.specs.Folders.{Outcome, changing, folder_in, listed, making, replied, replying, unchanged, unless_full, unless_plain}

-- the parent that an object tells
abbrev pub parent_of : Obj → ℕ
parent_of (objects.Context c) = c.parent
parent_of (objects.Table t) = t.parent
parent_of (objects.Message m) = m.folder
parent_of (objects.Bare above) = above.bits

-- the parent of a node, an object or as it is
abbrev pub parent_told : Option Obj → Option NodeRec → Option ℕ
parent_told None other = option_map (λ rec. rec.parent.bits) other
parent_told (Some object) other = Some (parent_of object)

-- the parent of the node at an id, whatever stands there
abbrev pub parent_at : Tree → ℕ → Option ℕ
parent_at T q = parent_told (object_at T q) (node_at T.others q)

-- the message with this id: its node's parent is a plain folder, which lists it
unfoldable pub message_in : Tree → ℕ → Answer Mes
message_in T m = refused_if (not (kind_of m == 4)) Object >>= λ u. found Object (parent_at T m) >>= λ f. found Object (find_place f T.places) >>= λ p.
    refused_if (not (is_plain p)) Object >>= λ v. table_at T nothing (contents f) >>= λ t. refused_if (not (is_some (find_row m t.table.rows))) Object >>= λ w. message_at T nothing m

-- a message becomes another: its flags and its size are made right, its row shows it, and its folder is counted anew; refused where there is a reason beside the limits
unfoldable pub remaking : Tree → Mes → Option CommandRefusal → LastLine → Answer Outcome
remaking T new reason last =
    let m = finished new in
    put_shown T (contents m.folder) m.nid m.props (with_object m.nid (Some (objects.Message m)) nothing) >>= settled T T.places m.folder >>= replying T reason (replied last)

-- a message gets other values
unfoldable pub changed_message : Tree → Mes → List Val → Answer Outcome
changed_message T old props = remaking T (with_props props old) None Done

-- a new message: its folder lists it in a row that shows it, and is counted anew
abbrev pub added_message : Tree → Mes → Changed → Answer Changed
added_message T m D = add_shown T (contents m.folder) m.nid m.props (with_object m.nid (Some (objects.Message m)) D) >>= settled T T.places m.folder

-- a message without recipients, attachments and other subnodes
abbrev pub plain_message : ℕ → ℕ → List Val → Mes
plain_message m folder props = record { nid = m; folder = folder; props = props; recipients = None; attachments = None; parts = []; kept = [] }

-- a new message of this index
unfoldable pub making_message : Tree → ℕ → List ℕ → ℕ → List Val → List Val → ℕ → Answer Outcome
making_message T folder class time store values index =
    let m = new_id 4 index in
    added_message T (finished (plain_message m folder (message_props m class time store values))) nothing >>= making T T.places 4 index

-- a new message with values that it may be given
unfoldable pub given_message : Tree → ℕ → List ℕ → ℕ → List Val → Answer Outcome
given_message T folder class time values = folder_in T folder >>= λ p. unless_plain p >>= λ u. context_at T nothing 0x21 >>= λ store. unless_full T (contents folder) >>= λ v.
    making_message T folder class time store.props values (next_index T 4 message_kinds)

-- `new`
unfoldable pub new_message : Tree → ℕ → List ℕ → ℕ → List Val → Answer Outcome
new_message T folder class time values = refused_if (list_any is_withheld values) Protected >>= λ u. given_message T folder class time values

-- `set`
unfoldable pub set_value : Tree → ℕ → Val → Answer Outcome
set_value T m v = message_in T m >>= λ M. refused_if (is_set_protected v.id M.props) Protected >>= λ u. unless_nameless T v.id >>= λ w.
    changed_message T M (put v M.props)

-- `unset`
unfoldable pub unset_value : Tree → ℕ → Tag → Answer Outcome
unset_value T m tag = message_in T m >>= λ M. refused_if (is_unset_protected tag.id tag.kind M.props) Protected >>= λ u.
    refused_if (not (is_some (bytes_of tag.id tag.kind M.props))) Property >>= λ w. changed_message T M (remove_id tag.id M.props)

-- the value of this id, if it is of this kind
abbrev pub value_of : Tag → List Val → Option Val
value_of tag props = option_and_then (λ v. if v.kind == tag.kind then Some v else None) (find tag.id props)

-- `get`
unfoldable pub value_in : Tree → ℕ → Tag → Answer Outcome
value_in T m tag = message_in T m >>= λ M. found Property (value_of tag M.props) >>= λ v. Ok (unchanged T (replied (Value v)))

abbrev pub property_line : Val → DataLine
property_line v = lines.Property (record { id = v.id; kind = v.kind }) (length v.bytes)

abbrev pub recipient_line : ℕ × List Val → DataLine
recipient_line r = lines.Recipient r.0 (number_of 0x0C15 r.1) (text_of 0x3003 r.1) (text_of 0x3001 r.1)

abbrev pub attachment_line : Part → DataLine
attachment_line part = lines.Attachment part.nid (length_of (find 0x3701 part.props)) (text_of 0x3704 part.props)

-- `props`: the properties by their ids, the recipients by their rows, and the attachments by their ids
unfoldable pub details : Tree → ℕ → Answer Outcome
details T m = message_in T m >>= λ M. Ok (unchanged T (listed (map property_line M.props ++ (map recipient_line (rows_of M.recipients) ++ map attachment_line M.parts))))

abbrev pub in_folder : ℕ → Mes → Mes
in_folder folder m = record m { folder = folder }

-- `mv`
unfoldable pub moved_message : Tree → ℕ → ℕ → Answer Outcome
moved_message T m folder = message_in T m >>= λ M. folder_in T folder >>= λ p. unless_plain p >>= λ u.
    if M.folder == folder then Ok (unchanged T (replied Done)) else
    (drop_shown T (contents M.folder) m (with_object m (Some (objects.Message (in_folder folder M))) nothing) >>= λ D.
    add_shown T (contents folder) m M.props D >>= settled T T.places M.folder >>= settled T T.places folder >>= changing T (replied Done))

-- there are more than 100,000 rows
abbrev pub is_overfull : Option Tab → Bool
is_overfull t = nat_lt 100000 (length (rows_of t))

-- a copy with its own id in a folder
abbrev pub copy_of : ℕ → ℕ → Mes → Mes
copy_of m folder original = record original { nid = m; folder = folder }

-- a copy of this index, where the folder of the original stays as it is
unfoldable pub copying : Tree → Mes → ℕ → ℕ → Answer Outcome
copying T M folder index =
    touched T M.folder nothing >>= added_message T (copy_of (new_id 4 index) folder M) >>= making T T.places 4 index

-- `cp`: recipients, attachments and all subnodes are copied
unfoldable pub copied_message : Tree → ℕ → ℕ → Answer Outcome
copied_message T m folder = message_in T m >>= λ M. folder_in T folder >>= λ p. unless_plain p >>= λ u.
    refused_if (is_overfull M.recipients || is_overfull M.attachments) (Limit Rows) >>= λ v. unless_full T (contents folder) >>= λ w. copying T M folder (next_index T 4 message_kinds)

-- `rm`
unfoldable pub removed_message : Tree → ℕ → Answer Outcome
removed_message T m = message_in T m >>= λ M. drop_shown T (contents M.folder) m (with_object m None nothing) >>= settled T T.places M.folder >>= changing T (replied Done)

-- no row is left
abbrev pub spent_row : ℕ → Option CommandRefusal
spent_row row = if is_spent_row row then Some Ids else None

-- a message gets a recipient of these values in this row
unfoldable pub adding_recipient : Tree → Mes → List Val → ℕ → Answer Outcome
adding_recipient T M props row = remaking T (with_recipient (new_row row) props M) (spent_row row) (Row (new_row row))

-- `rcpt`
unfoldable pub added_recipient : Tree → ℕ → ℕ → List ℕ → List ℕ → Answer Outcome
added_recipient T m kind address name = message_in T m >>= λ M. refused_if (is_full M.recipients) (Limit Rows) >>= λ u. refused_if (is_wide recipient_tags M.recipients) (Limit Rows) >>= λ v.
    adding_recipient T M (recipient_props kind address name) (next_row (rows_of M.recipients))

-- `unrcpt`
unfoldable pub removed_recipient : Tree → ℕ → ℕ → Answer Outcome
removed_recipient T m row = message_in T m >>= λ M. refused_if (not (has_recipient row M)) Object >>= λ u. remaking T (without_recipient row M) None Done

-- no index is left
abbrev pub spent_index : ℕ → Option CommandRefusal
spent_index index = if is_spent index then Some Ids else None

-- a message gets an attachment of this name and this index that holds this
unfoldable pub adding_attachment : Tree → Mes → List ℕ → Held → ℕ → Answer Outcome
adding_attachment T M name held index = remaking T (with_attachment (new_part (part_nid index) name held) (room_for index M)) (spent_index index) (Attached (part_nid index))

-- `attach`, and what `embed` comes to
unfoldable pub added_attachment : Tree → ℕ → List ℕ → Held → Answer Outcome
added_attachment T m name held = message_in T m >>= λ M. refused_if (is_full M.attachments) (Limit Rows) >>= λ u. refused_if (is_wide attachment_tags M.attachments) (Limit Rows) >>= λ v.
    adding_attachment T M name held (next_part M)

-- the data would be too long
abbrev pub too_long : List ℕ → List ℕ → Option CommandRefusal
too_long old more = if is_too_long old more then Some (Limit LongValue) else None

-- an attachment of a message gets other values
abbrev pub changing_part : Tree → Mes → Part → List Val → Option CommandRefusal → Answer Outcome
changing_part T M part props reason = remaking T (with_part (part_with props part) M) reason Done

-- an attachment of a message gets these bytes behind its data
unfoldable pub appending : Tree → Mes → Part → List ℕ → List ℕ → Answer Outcome
appending T M part old more = changing_part T M part (with_bytes (lengthened old more) part.props) (too_long old more)

-- `append`
unfoldable pub appended_data : Tree → ℕ → ℕ → List ℕ → Answer Outcome
appended_data T m n more = message_in T m >>= λ M. found Object (part_in n M) >>= λ part. found Property (bytes_of 0x3701 0x0102 part.props) >>= λ old. appending T M part old more

-- what `eset` and `eunset` come to: the message in an attachment becomes another
unfoldable pub set_embedded : Tree → ℕ → ℕ → Sub → Answer Outcome
set_embedded T m n node = message_in T m >>= λ M. found Object (part_in n M) >>= λ part. remaking T (with_part (part_holding node part) M) None Done

-- `detach`
unfoldable pub removed_attachment : Tree → ℕ → ℕ → Answer Outcome
removed_attachment T m n = message_in T m >>= λ M. refused_if (not (is_some (part_in n M))) Object >>= λ u. remaking T (without_attachment n M) None Done

-- `fetch`
unfoldable pub fetched_data : Tree → ℕ → ℕ → Answer Outcome
fetched_data T m n = message_in T m >>= λ M. found Object (part_in n M) >>= λ part. found Property (value_of data_tag part.props) >>= λ v. Ok (unchanged T (replied (Value v)))
