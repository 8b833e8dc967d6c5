-- What a command leaves in order: a folder's counts, and the row that shows it.
use Rattle.std.specs.Prelude.{ℕ, ◌+◌, ◌%◌, ◌==◌, Bool, List, [], ◌∷◌, filter, length, map, Some, Ok, if◌then◌else◌}
use Rattle.std.specs.List.{list_any}
use Rattle.mapi_values.specs.Tables.{Tab}
use Rattle.mapi_values.specs.Values.{Val}
use Rattle.mail_objects.specs.Forms.{Ctx}
use Rattle.mail_objects.specs.declared.object.Object.TheVariants.{Context, Table}
use Rattle.mail_tree.specs.declared.places.FolderPlace.{FolderPlace}
use Rattle.mail_tree.specs.Places.{ROOT, is_child}
use Rattle.mail_tree.specs.Tree.{Tree}
use Rattle.mail_tree.specs.Values.{is_read, with_counts}
use Rattle.mail_tree.specs.Changing.{Answer, Changed, ◌>>=◌, contents, context_at, hierarchy, message_at, put_shown, table_at, with_object}

-- the row is that of a message
abbrev pub is_message_row : ℕ × List Val → Bool
is_message_row row = row.0 % 32 == 4

-- the ids of the messages that a folder's table lists
abbrev pub message_ids : Tab → List ℕ
message_ids t = map (λ r. r.0) (filter is_message_row t.rows)

abbrev pub one_if_unread : List Val → ℕ
one_if_unread props = if is_read props then 0 else 1

-- how many of these messages are unread
abbrev pub unread_among : Tree → Changed → List ℕ → Answer ℕ
unread_among T D [] = Ok 0
unread_among T D (m ∷ ms) = message_at T D m >>= λ M. unread_among T D ms >>= λ n. Ok (one_if_unread M.props + n)

-- the same node of properties with other values
abbrev pub with_context : ℕ → Ctx → List Val → Changed → Changed
with_context f c props D = with_object f (Some (Context (record c { props = props }))) D

-- a folder is counted anew: its messages, those that are unread, and whether it has folders
unfoldable pub counted : Tree → List FolderPlace → ℕ → Changed → Answer Changed
counted T places f D = context_at T D f >>= λ c. table_at T D (contents f) >>= λ t. unread_among T D (message_ids t.table) >>= λ unread.
    Ok (with_context f c (with_counts (length (message_ids t.table)) unread (list_any (is_child f) places) c.props) D)

-- the node of properties at an id is put as it is
unfoldable pub context_as_is : Tree → ℕ → Changed → Answer Changed
context_as_is T f D = context_at T D f >>= λ c. Ok (with_object f (Some (Context c)) D)

-- the table at an id is put as it is
unfoldable pub table_as_is : Tree → ℕ → Changed → Answer Changed
table_as_is T q D = table_at T D q >>= λ t. Ok (with_object q (Some (Table t)) D)

-- the row of a folder in its parent's table shows it; the root has no row, and is its own parent, whose table is put as it is
unfoldable pub mirrored : Tree → ℕ → Changed → Answer Changed
mirrored T f D = if f == ROOT then table_as_is T (hierarchy ROOT) D else (context_at T D f >>= λ c. put_shown T (hierarchy c.parent) f c.props D)

-- the table that lists a folder is put as it is, for the root its own
unfoldable pub above_as_is : Tree → ℕ → Changed → Answer Changed
above_as_is T f D = if f == ROOT then table_as_is T (hierarchy ROOT) D else (context_at T D f >>= λ c. table_as_is T (hierarchy c.parent) D)

-- a folder from which something is read is put as it is: its values, its table of messages, and the table that lists it
unfoldable pub touched : Tree → ℕ → Changed → Answer Changed
touched T f D = context_as_is T f D >>= table_as_is T (contents f) >>= above_as_is T f

-- a folder in which something came, went or changed is counted anew, and its row shows it
unfoldable pub settled : Tree → List FolderPlace → ℕ → Changed → Answer Changed
settled T places f D = counted T places f D >>= mirrored T f
