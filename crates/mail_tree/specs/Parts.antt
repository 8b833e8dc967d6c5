-- The recipients and attachments of a message: what stands in them, and what a message is with others.
use Rattle.std.specs.Prelude.{ℕ, ◌+◌, ◌==◌, ◌&&◌, Bool, false, nat_le, nat_lt, List, [], ◌∷◌, ◌++◌, length, map, max, min, suc, Option, None, Some, if◌then◌else◌}
use Rattle.std.specs.Option.{is_some, option_map}
use Rattle.byteorder.specs.Endian.{little_bytes}
use Rattle.pst_base.specs.Flat.{Flat}
use Rattle.pst_base.specs.Ids.{index_of, kind_of}
use Rattle.pst_base.specs.Subs.{flattened}
use Rattle.pst_base.specs.declared.ids.Nid.{Nid}
use Rattle.pst_base.specs.declared.subs.Sub.{Sub}
use Rattle.command_text.specs.declared.command.Held.{Held}
use Rattle.command_text.specs.declared.command.Held.TheVariants.{Data, Message}
use Rattle.column_layout.specs.Layout.{completed, has_columns, with_columns}
use Rattle.mapi_values.specs.Keyed.{drop_key, find_key, put_key}
use Rattle.mapi_values.specs.Messages.{Mes, part_id}
use Rattle.mapi_values.specs.Properties.{put}
use Rattle.mapi_values.specs.Tables.{Tab, drop_row, find_row, mirror}
use Rattle.mapi_values.specs.Values.{Val}
use Rattle.mapi_values.specs.declared.column.Column.{Column}
use Rattle.mapi_values.specs.declared.part.Part.{Part}
use Rattle.mapi_values.specs.declared.value.Tag.{Tag}
use Rattle.mail_tree.specs.Changing.{shown_row}
use Rattle.mail_tree.specs.Columns.{attachments_table, recipients_table}
use Rattle.mail_tree.specs.Ids.{is_spent, new_id}
use Rattle.mail_tree.specs.Values.{number, text, value}

abbrev pub tag : ℕ → ℕ → Tag
tag id kind = record { id = id; kind = kind }

-- the columns that a table of recipients has: types, names, address types and addresses
abbrev pub recipient_tags : List Tag
recipient_tags = tag 0x0C15 0x0003 ∷ tag 0x3001 0x001F ∷ tag 0x3002 0x001F ∷ tag 0x3003 0x001F ∷ []

-- the values of a recipient, whose addresses are those of SMTP
abbrev pub recipient_props : ℕ → List ℕ → List ℕ → List Val
recipient_props kind address name = number 0x0C15 kind ∷ text 0x3001 name ∷ text 0x3002 (83 ∷ 77 ∷ 84 ∷ 80 ∷ []) ∷ text 0x3003 address ∷ []

-- the rows of a table, none where there is no table
abbrev pub rows_of : Option Tab → List (ℕ × List Val)
rows_of None = []
rows_of (Some t) = t.rows

-- the table of recipients with all columns of one, a new one where there is none
abbrev pub recipients_for : Option Tab → Tab
recipients_for None = recipients_table.table
recipients_for (Some t) = completed recipient_tags t

-- the row that follows the greatest, the first where there is none
abbrev pub next_row : List (ℕ × List Val) → ℕ
next_row [] = 0
next_row (r ∷ rs) = max (suc r.0) (next_row rs)

-- no row is left
abbrev pub is_spent_row : ℕ → Bool
is_spent_row row = nat_lt 4294967295 row

-- the row of a new recipient; where none is left, changes are planned with the last one
abbrev pub new_row : ℕ → ℕ
new_row row = min row 4294967295

-- the table has as many rows as a command may bring it to
abbrev pub is_full : Option Tab → Bool
is_full t = nat_le 100000 (length (rows_of t))

-- the table would have more than 255 columns with these
abbrev pub is_wide : List Tag → Option Tab → Bool
is_wide tags None = false
is_wide tags (Some t) = nat_lt 255 (length (with_columns tags t.columns))

-- the message with a recipient of these values in this row
abbrev pub with_recipient : ℕ → List Val → Mes → Mes
with_recipient row props m = let t = recipients_for m.recipients in record m { recipients = Some (record t { rows = shown_row row props t }) }

-- the message has a recipient in this row
abbrev pub has_recipient : ℕ → Mes → Bool
has_recipient row m = is_some (find_row row (rows_of m.recipients))

-- the message without the recipient in this row
abbrev pub without_recipient : ℕ → Mes → Mes
without_recipient row m = record m { recipients = option_map (λ (t : Tab). record t { rows = drop_row row t.rows }) m.recipients }

-- the columns that a table of attachments has: sizes, names, methods and places in the text
abbrev pub attachment_tags : List Tag
attachment_tags = tag 0x0E20 0x0003 ∷ tag 0x3704 0x001F ∷ tag 0x3705 0x0003 ∷ tag 0x370B 0x0003 ∷ []

-- the id and the kind of an attachment's data
abbrev pub data_tag : Tag
data_tag = tag 0x3701 0x0102

-- the object that an attachment has in place of data: the subnode of a message, and the size that this tells
abbrev pub object_bytes : ℕ → ℕ → List ℕ
object_bytes nid size = little_bytes 4 nid ++ little_bytes 4 size

-- the values of an attachment with data: how long that is, the data, its name, that it holds it itself, and that the text shows it nowhere; with a message: its size, its subnode, the name, that it is a message, and the same
abbrev pub attachment_props : List ℕ → Held → List Val
attachment_props name (Data bytes) = number 0x0E20 (length bytes) ∷ value 0x3701 0x0102 bytes ∷ text 0x3704 name ∷ number 0x3705 1 ∷ number 0x370B 4294967295 ∷ []
attachment_props name (Message size node) = number 0x0E20 size ∷ value 0x3701 0x000D (object_bytes node.nid.bits size) ∷ text 0x3704 name ∷ number 0x3705 5 ∷ number 0x370B 4294967295 ∷ []

-- the subnodes of an attachment that no value uses: that of the message, if it holds one
abbrev pub held_subnodes : Held → List Flat
held_subnodes (Data bytes) = []
held_subnodes (Message size node) = flattened (node ∷ [])

-- the row that shows an attachment
abbrev pub part_row : List Column → Part → ℕ × List Val
part_row columns part = (part_id part, mirror columns part.props)

-- a table of attachments in which the row of each shows it
abbrev pub shown_anew : List Part → Tab → Tab
shown_anew parts t = record t { rows = map (part_row t.columns) parts }

-- the table of attachments with all columns of one, a new one where there is none; where it gets a column, the row of each shows it anew
abbrev pub attachments_for : List Part → Option Tab → Tab
attachments_for parts None = attachments_table.table
attachments_for parts (Some t) = if has_columns t.columns attachment_tags then t else shown_anew parts (completed attachment_tags t)

-- the index of an id of an attachment's kind, 0 of another one
unfoldable pub part_index : ℕ → ℕ
part_index nid = if kind_of nid == 5 then index_of nid else 0

-- the greatest of these attachments' indexes
abbrev pub greatest_part : List Part → ℕ
greatest_part [] = 0
greatest_part (p ∷ ps) = max (part_index (part_id p)) (greatest_part ps)

-- the greatest index of an attachment's kind among the subnodes directly in the list
abbrev pub greatest_kept : List Flat → ℕ
greatest_kept [] = 0
greatest_kept (f ∷ fs) = max (if f.level == 0 then part_index f.nid else 0) (greatest_kept fs)

-- the index that follows 400h and those of all subnodes of an attachment's kind directly in the message
unfoldable pub next_part : Mes → ℕ
next_part m = suc (max 1024 (max (greatest_part m.parts) (greatest_kept m.kept)))

-- a new attachment of this name that holds this
abbrev pub new_part : Nid → List ℕ → Held → Part
new_part nid name held = record { nid = nid; props = attachment_props name held; kept = held_subnodes held }

-- the id of a new attachment of this index
abbrev pub part_nid : ℕ → Nid
part_nid index = record { bits = new_id 5 index }

-- the message that an attachment of this index is put into; where no index is left, changes are planned with the last one and without what the message keeps
abbrev pub room_for : ℕ → Mes → Mes
room_for index m = record m { kept = if is_spent index then [] else m.kept }

-- the message with this attachment
abbrev pub with_attachment : Part → Mes → Mes
with_attachment part m = let t = attachments_for m.parts m.attachments in
    record m { attachments = Some (record t { rows = shown_row (part_id part) part.props t }); parts = put_key part_id part m.parts }

-- the attachment of the message with this id
abbrev pub part_in : ℕ → Mes → Option Part
part_in n m = find_key part_id n m.parts

-- the message without the attachment of this id
abbrev pub without_attachment : ℕ → Mes → Mes
without_attachment n m = record m { attachments = option_map (λ (t : Tab). record t { rows = drop_row n t.rows }) m.attachments; parts = drop_key part_id n m.parts }

-- the message with this in place of the attachment of its id, whose row shows it
abbrev pub with_part : Part → Mes → Mes
with_part part m = record m { attachments = option_map (λ (t : Tab). record t { rows = shown_row (part_id part) part.props t }) m.attachments; parts = put_key part_id part m.parts }

-- with these bytes more the data would be longer than a command may make it
unfoldable pub is_too_long : List ℕ → List ℕ → Bool
is_too_long old more = nat_lt 0 (length more) && nat_lt 8000000 (length old + length more)

-- the data with these bytes more; where it would be too long, changes are planned with the data as it is
unfoldable pub lengthened : List ℕ → List ℕ → List ℕ
lengthened old more = if is_too_long old more then old else old ++ more

-- the values of an attachment with other data, and how long it is
abbrev pub with_bytes : List ℕ → List Val → List Val
with_bytes bytes props = put (number 0x0E20 (length bytes)) (put (value 0x3701 0x0102 bytes) props)

-- the same attachment with other values
abbrev pub part_with : List Val → Part → Part
part_with props part = record part { props = props }

-- what stands behind the subnode before the list and all below that
abbrev pub behind : List Flat → List Flat
behind [] = []
behind (f ∷ fs) = if f.level == 0 then f ∷ fs else behind fs

-- the list with this in place of the first subnode directly in it that has the same id, if there is one
abbrev pub with_subnode : Sub → List Flat → List Flat
with_subnode node [] = []
with_subnode node (f ∷ fs) = if (f.level == 0) && (f.nid == node.nid.bits) then flattened (node ∷ []) ++ behind fs else f ∷ with_subnode node fs

-- the same attachment with another message in it
abbrev pub part_holding : Sub → Part → Part
part_holding node part = record part { kept = with_subnode node part.kept }
