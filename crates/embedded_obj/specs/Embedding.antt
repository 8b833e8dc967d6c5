-- Messages in attachments: which attachment holds which message, and what the lines on them come to.
use Rattle.std.specs.Prelude.{◌≡◌, ℕ, ◌+◌, ◌==◌, ◌&&◌, Bool, false, not, nat_lt, List, [], length, Option, None, Some, Ok, if◌then◌else◌, ◌||◌}
use Rattle.std.specs.List.{list_any}
use Rattle.std.specs.Option.{is_some, option_and_then}
use Rattle.pst_base.specs.Fields.{number_at}
use Rattle.pst_base.specs.Flat.{Flat}
use Rattle.pst_base.specs.Ids.{kind_of}
use Rattle.pst_base.specs.declared.subs.Sub.{Sub}
use Rattle.mapi_values.specs.Messages.{Mes, size}
use Rattle.mapi_values.specs.Properties.{put, remove_id}
use Rattle.mapi_values.specs.Tables.{Tab}
use Rattle.mapi_values.specs.Values.{Val}
use Rattle.mapi_values.specs.declared.part.Part.{Part}
use Rattle.mapi_values.specs.declared.value.Tag.{Tag}
use Rattle.node_port.specs.declared.node.NodeRec.{NodeRec}
use Rattle.node_values.specs.Subnodes.{subnode}
use Rattle.command_text.specs.declared.command.Held.TheVariants.{Message}
use Rattle.command_text.specs.declared.reply.CommandRefusal.TheVariants.{Ids, Limit, Property, Protected}
use Rattle.command_text.specs.declared.reply.Limit.TheVariants.{Nesting, Properties, Rows}
use Rattle.mail_objects.specs.Objects.{ShowsMail}
use Rattle.write_limits.specs.Limits.{message_fits}
use Rattle.mail_tree.specs.Tree.{Tree}
use Rattle.mail_tree.specs.Values.{bytes_of, finished, is_set_protected, is_unset_protected, number_of, with_props}
use Rattle.mail_tree.specs.Changing.{Answer, ◌>>=◌, crowds_message, refused_if}
use Rattle.mail_tree.specs.Ids.{is_spent}
use Rattle.mail_tree.specs.Messages.{is_overfull}
use Rattle.mail_tree.specs.Names.{unless_nameless}
use Rattle.mail_tree.specs.Parts.{attachment_tags, is_full, is_wide, new_part, next_part, part_nid, room_for, with_attachment}

-- the subnode in which `embed` lays a message
abbrev pub EMBEDDED : ℕ
EMBEDDED = 0x8024

-- an object of 8 bytes names a subnode of a message's kind in its first 4
abbrev pub message_named : List ℕ → Option ℕ
message_named object = if (length object == 8) && (kind_of (number_at 4 0 object) == 4) then Some (number_at 4 0 object) else None

-- the subnode of an attachment's message: the attachment says that it is one, and its object names it
unfoldable pub embedded_in : List Val → Option ℕ
embedded_in props = if number_of 0x3705 props == 5 then option_and_then message_named (bytes_of 0x3701 0x000D props) else None

-- the node of a message that stands in no folder
abbrev pub placeless : List (List ℕ) → List Flat → NodeRec
placeless blocks subs = record { parent = record { bits = 0 }; blocks = blocks; subs = subs }

-- The attachment holds the message: this stands in the subnode that the attachment names, and in no folder.
pub record ShowsInner (part : Part) (m : Mes) : Type 0 where
  pub id : ℕ
  pub named : embedded_in part.props ≡ Some id
  pub sub : List (List ℕ) × List Flat
  pub there : subnode part.kept id ≡ Some sub
  pub shows : ShowsMail id (placeless sub.0 sub.1) m

-- the message that an attachment holds, if it holds one
abbrev pub IsInner : Part → Option Mes → Type 0
IsInner part None = (m : Mes) → ShowsInner part m → ⊥
IsInner part (Some m) = ShowsInner part m

-- the message laid out as a subnode
abbrev pub IsLaid : Sub → Mes → Type 0
IsLaid node m = ShowsMail node.nid.bits (placeless node.blocks node.subs) m

-- the message as it stands in an attachment
abbrev pub embedded : ℕ → Mes → Mes
embedded nid m = record m { nid = nid; folder = 0 }

-- a subnode at this level of something that stands so deep in a message stands below level 8 of another that the message is embedded in: the message itself stands at its second level
abbrev pub is_sunk : ℕ → Flat → Bool
is_sunk above f = nat_lt 5 (above + f.level)

-- so does one that a table keeps
abbrev pub table_sinks : Option Tab → Bool
table_sinks None = false
table_sinks (Some t) = list_any (is_sunk 1) t.kept

-- so does one that an attachment keeps
abbrev pub part_sinks : Part → Bool
part_sinks part = list_any (is_sunk 1) part.kept

-- embedded, the message would have a subnode below level 8
unfoldable pub nests_deep : Mes → Bool
nests_deep m = list_any (is_sunk 0) m.kept || (table_sinks m.recipients || (table_sinks m.attachments || list_any part_sinks m.parts))

-- a subnode that nothing is laid in yet
abbrev pub unlaid : Sub
unlaid = record { nid = record { bits = EMBEDDED }; blocks = []; subs = [] }

-- the message with an attachment of this name for a message of this size
unfoldable pub with_room : List ℕ → ℕ → Mes → Mes
with_room name bytes m = with_attachment (new_part (part_nid (next_part m)) name (Message bytes unlaid)) (room_for (next_part m) m)

-- the table of attachments would have too many columns with one for a message of this size, or the message couldn't be written
unfoldable pub lacks_room : List ℕ → ℕ → Mes → Bool
lacks_room name bytes m = is_wide attachment_tags m.attachments || not (message_fits (with_room name bytes m))

-- a table has too many rows, or the copy of the message couldn't be written
unfoldable pub is_uncopied : Mes → Mes → Bool
is_uncopied m x = is_full m.attachments || (is_overfull x.recipients || (is_overfull x.attachments || not (message_fits x)))

-- a table would have too many rows or columns, or what is written couldn't be: of the message that gets the attachment, or of the copy of the other
unfoldable pub lacks_rows : Mes → Mes → List ℕ → Bool
lacks_rows m x name = is_uncopied m x || lacks_room name (size x) m

-- a message may get an attachment of this name with a copy of the other
unfoldable pub embedding : Mes → Mes → List ℕ → Answer (Unit {0})
embedding m x name = refused_if (lacks_rows m x name) (Limit Rows) >>= λ u. refused_if (nests_deep x) (Limit Nesting) >>= λ v. refused_if (is_spent (next_part m)) Ids

-- an embedded message becomes another, with its flags and its size right, within the limits on what a command writes
unfoldable pub becoming : Mes → Mes → Answer Mes
becoming old new = refused_if (not (message_fits (finished new))) (Limit Rows) >>= λ u. refused_if (crowds_message old (finished new)) (Limit Properties) >>= λ v. Ok (finished new)

-- an embedded message gets a value
unfoldable pub set_inside : Tree → Val → Mes → Answer Mes
set_inside T v m = refused_if (is_set_protected v.id m.props) Protected >>= λ u. unless_nameless T v.id >>= λ w. becoming m (with_props (put v m.props) m)

-- an embedded message loses a value
unfoldable pub unset_inside : Tag → Mes → Answer Mes
unset_inside tag m = refused_if (is_unset_protected tag.id tag.kind m.props) Protected >>= λ u. refused_if (not (is_some (bytes_of tag.id tag.kind m.props))) Property >>= λ w. becoming m (with_props (remove_id tag.id m.props) m)
