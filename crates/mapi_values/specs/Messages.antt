-- Messages, and the size that a message tells of itself.
use Rattle.std.specs.Prelude.{◌≡◌, ℕ, ◌+◌, ◌==◌, Bool, IsTrue, not, List, [], ◌∷◌, length, map, min, Option, None, Some, if◌then◌else◌, ◌||◌}
use Rattle.std.specs.List.{list_all, list_any}
use Rattle.pst_base.specs.Flat.{Flat}
use Rattle.mapi_values.specs.declared.part.Part.{Part}
use Rattle.mapi_values.specs.Tables.{Tab}
use Rattle.mapi_values.specs.Tags.{pid_tag_ltp_row_id, pid_tag_ltp_row_ver, pid_tag_message_size}
use Rattle.mapi_values.specs.Values.{Val}

-- a message's node and the node of its folder, its values, its tables, the attachments, and the subnodes that none of these uses
pub record Mes : Type 0 where
  pub nid : ℕ
  pub folder : ℕ
  pub props : List Val
  pub recipients : Option Tab
  pub attachments : Option Tab
  pub parts : List Part
  pub kept : List Flat

-- the ids of a table's rows
abbrev pub row_ids : Option Tab → List ℕ
row_ids None = []
row_ids (Some t) = map (λ r. r.0) t.rows

-- the node of an attachment
abbrev pub part_id : Part → ℕ
part_id part = part.nid.bits

-- the attachments are just those that the rows of the attachment table name, in their order
abbrev pub AreNamed : List Part → Option Tab → Type 0
AreNamed parts attachments = map part_id parts ≡ row_ids attachments

-- the subnode of a message that is the table of its attachments
abbrev pub nid_attachment_table : ℕ
nid_attachment_table = 0x671

-- the subnode of a message that is the table of its recipients
abbrev pub nid_recipient_table : ℕ
nid_recipient_table = 0x692

-- the id of a subnode that a message has for itself: the tables of recipients and of attachments, and each attachment
abbrev pub is_own : List Part → ℕ → Bool
is_own parts nid = (nid == nid_recipient_table) || ((nid == nid_attachment_table) || list_any (λ part. part.nid.bits == nid) parts)

-- the subnode stands deeper, or has another id than those
unfoldable pub is_other : List Part → Flat → Bool
is_other parts f = not (f.level == 0) || not (is_own parts f.nid)

-- none of the kept subnodes is one that the message has for itself
abbrev pub are_others : List Part → List Flat → Bool
are_others parts kept = list_all (is_other parts) kept

-- the attachments are those that their table names, and the kept subnodes are others
pub record IsMessage (attachments : Option Tab) (parts : List Part) (kept : List Flat) : Type 0 where
  pub named : AreNamed parts attachments
  pub others : IsTrue (are_others parts kept)

-- how many bytes a value counts in the size of its message: none as that size itself, the row id and the row version
unfoldable pub value_size : Val → ℕ
value_size v = if (v.id == pid_tag_message_size.id) || ((v.id == pid_tag_ltp_row_id.id) || (v.id == pid_tag_ltp_row_ver.id)) then 0 else length v.bytes

-- how many bytes these values count together
abbrev pub values_size : List Val → ℕ
values_size [] = 0
values_size (v ∷ vs) = value_size v + values_size vs

-- how many bytes the cells of these rows count
abbrev pub rows_size : List (ℕ × List Val) → ℕ
rows_size [] = 0
rows_size (r ∷ rs) = values_size r.1 + rows_size rs

-- how many bytes the cells of a table count, if there is one
abbrev pub table_size : Option Tab → ℕ
table_size None = 0
table_size (Some t) = rows_size t.rows

-- how many bytes the values of these attachments count
abbrev pub parts_size : List Part → ℕ
parts_size [] = 0
parts_size (p ∷ ps) = values_size p.props + parts_size ps

-- the greatest size that a message tells
abbrev pub greatest : ℕ
greatest = 2147483647

-- the size of a message: the bytes of its values, its recipients and its attachments
unfoldable pub size : Mes → ℕ
size m = min (values_size m.props + (table_size m.recipients + parts_size m.parts)) greatest
