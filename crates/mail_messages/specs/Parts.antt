-- Commands on messages, part by part.
use Rattle.std.specs.Prelude.{ℕ, ◌==◌, ◌++◌, List, map, nat_le, not, is_some, Ok, if◌then◌else◌, ◌||◌}
use Rattle.std.specs.List.{list_any}
use Rattle.command_text.specs.declared.reply.CommandRefusal.TheVariants.{Limit, Property, Protected, Reserved}
use Rattle.command_text.specs.declared.reply.Limit.TheVariants.{Rows}
use Rattle.command_text.specs.declared.reply.DataLine.{DataLine}
use Rattle.command_text.specs.declared.reply.LastLine.TheVariants.{Done, Value}
use Rattle.command_text.specs.declared.reply.Reply.{Reply}
use Rattle.mapi_values.specs.Messages.{Mes}
use Rattle.mapi_values.specs.Properties.{put, remove_id}
use Rattle.mapi_values.specs.Values.{Val}
use Rattle.mail_tree.specs.declared.places.FolderPlace.{FolderPlace}
use Rattle.mapi_values.specs.declared.value.Tag.{Tag}
use Rattle.mail_tree.specs.Tree.{Tree}
use Rattle.mail_tree.specs.Values.{bytes_of, is_set_protected, is_unset_protected, is_withheld}
use Rattle.mail_tree.specs.Changing.{Answer, Changed, ◌>>=◌, add_shown, contents, found, put_shown, refused_if}
use Rattle.mail_tree.specs.Settling.{settled}
use Rattle.mail_tree.specs.Ids.{message_kinds, next_index}
use Rattle.mail_tree.specs.Names.{unless_nameless}
use Rattle.mail_tree.specs.Folders.{Outcome, changing, making, replied, unchanged, unless_full}
use Rattle.mail_messages.specs.Finding.{plain_at}
use Rattle.mail_tree.specs.Messages.{added_message, attachment_line, changed_message, copying, is_overfull, making_message, property_line, recipient_line, value_of}
use Rattle.mail_tree.specs.Parts.{rows_of}
use Rattle.mail_messages.specs.Pieces.{moving_message}

-- a folder is counted anew, and that is all
abbrev pub settling : Tree → ℕ → Changed → Answer Outcome
settling T f D = settled T T.places f D >>= changing T (replied Done)

-- the row of a message in this folder shows these values of it, and the folder is counted anew
abbrev pub showing_row : Tree → ℕ → ℕ → List Val → Changed → Answer Changed
showing_row T f m props D = put_shown T (contents f) m props D >>= settled T T.places f

-- the value of this id isn't the store's own
abbrev pub may_set : ℕ → List Val → Answer (Unit {0})
may_set id props = refused_if (is_set_protected id props) Protected

-- the value of this id may be put: it isn't the store's own, and has a name where it needs one
abbrev pub may_put : Tree → ℕ → List Val → Answer (Unit {0})
may_put T id props = may_set id props >>= λ u. unless_nameless T id

-- a message gets a value
abbrev pub putting_value : Tree → Val → Mes → Answer Outcome
putting_value T v M = may_set v.id M.props >>= λ u. unless_nameless T v.id >>= λ w. changed_message T M (put v M.props)

-- the value of this id and kind may be removed
abbrev pub may_unset : Tag → List Val → Answer (Unit {0})
may_unset tag props = refused_if (is_unset_protected tag.id tag.kind props) Protected >>= λ u. refused_if (not (is_some (bytes_of tag.id tag.kind props))) Property

-- a message loses a value
abbrev pub removing_value : Tree → Tag → Mes → Answer Outcome
removing_value T tag M = may_unset tag M.props >>= λ u. changed_message T M (remove_id tag.id M.props)

-- the value as a reply
abbrev pub value_reply : Tag → List Val → Answer Reply
value_reply tag props = found Property (value_of tag props) >>= λ v. Ok (replied (Value v))

-- the value is the reply
abbrev pub telling_value : Tree → Tag → List Val → Answer Outcome
telling_value T tag props = found Property (value_of tag props) >>= λ v. Ok (unchanged T (replied (Value v)))

-- a table of so many rows may get another
abbrev pub may_grow : ℕ → Answer (Unit {0})
may_grow count = refused_if (nat_le 100000 count) (Limit Rows)

-- a folder lists a message with these values in a row, and is counted anew
abbrev pub adding_row : Tree → ℕ → ℕ → List Val → Changed → Answer Changed
adding_row T f m props D = add_shown T (contents f) m props D >>= settled T T.places f

-- a new message with this index, which its folder lists
abbrev pub adding : Tree → Mes → Changed → ℕ → Answer Outcome
adding T m D index = added_message T m D >>= making T T.places 4 index

-- the index of a message that comes into a folder which has room for it
abbrev pub index_in : Tree → ℕ → Answer ℕ
index_in T folder = unless_full T (contents folder) >>= λ u. Ok (next_index T 4 message_kinds)

-- a new message may be given these values
abbrev pub may_give : List Val → Answer (Unit {0})
may_give values = refused_if (list_any is_withheld values) Protected

-- a folder that has room for it gets a new message of this class and time, in a store of these values, given those
abbrev pub making_in : Tree → ℕ → List ℕ → ℕ → List Val → List Val → Answer Outcome
making_in T folder class time store values = unless_full T (contents folder) >>= λ u. making_message T folder class time store values (next_index T 4 message_kinds)

-- a folder that has room for it gets a copy of a message
abbrev pub copying_in : Tree → ℕ → Mes → Answer Outcome
copying_in T folder M = unless_full T (contents folder) >>= λ u. copying T M folder (next_index T 4 message_kinds)

-- two folders are counted anew, and that is all
abbrev pub settling_both : Tree → ℕ → ℕ → Changed → Answer Outcome
settling_both T from to D = settled T T.places from D >>= settling T to

-- a message comes from one folder into another, which lists it
abbrev pub arriving : Tree → ℕ → ℕ → ℕ → List Val → Changed → Answer Outcome
arriving T from to m props D = add_shown T (contents to) m props D >>= settling_both T from to

-- a message goes into a folder that is plain, if it isn't there
abbrev pub moving_into : Tree → ℕ → ℕ → Mes → Answer Outcome
moving_into T m folder M = plain_at folder Reserved T.places >>= λ u. if M.folder == folder then Ok (unchanged T (replied Done)) else moving_message T m folder M

-- the tables of a message have few enough rows to be copied
abbrev pub may_copy : Mes → Answer (Unit {0})
may_copy M = refused_if (is_overfull M.recipients || is_overfull M.attachments) (Limit Rows)

-- a message may be copied into a folder
abbrev pub may_copy_into : ℕ → Mes → List FolderPlace → Answer (Unit {0})
may_copy_into folder M places = plain_at folder Reserved places >>= λ u. may_copy M

-- a message is copied into a folder that is plain
abbrev pub copying_into : Tree → ℕ → Mes → Answer Outcome
copying_into T folder M = plain_at folder Reserved T.places >>= λ u. may_copy M >>= λ v. copying_in T folder M

-- the lines that tell of a message
abbrev pub detail_lines : Mes → List DataLine
detail_lines M = map property_line M.props ++ (map recipient_line (rows_of M.recipients) ++ map attachment_line M.parts)
