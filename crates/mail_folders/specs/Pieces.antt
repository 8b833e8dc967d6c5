-- The commands on folders, part by part.
use Rattle.std.specs.Prelude.{◌≡◌, ℕ, ◌++◌, ◌==◌, if◌then◌else◌, nat_eq, nat_le, Bool, List, [], ◌∷◌, filter, length, None, Some, Result, Ok, false, ◌||◌}
use Rattle.std.specs.Cmp.Lexicographic.{pointwise}
use Rattle.mapi_values.specs.Characters.{folded}
use Rattle.mapi_values.specs.Keyed.{drop_key, put_key}
use Rattle.mapi_values.specs.Messages.{Mes}
use Rattle.mapi_values.specs.Properties.{put}
use Rattle.mapi_values.specs.Values.{Val}
use Rattle.command_text.specs.declared.reply.CommandRefusal.TheVariants.{NameTaken, NotEmpty, Limit, Protected}
use Rattle.command_text.specs.declared.reply.Limit.TheVariants.{Depth, Rows}
use Rattle.command_text.specs.declared.reply.DataLine.{DataLine}
use Rattle.command_text.specs.declared.reply.DataLine.TheVariants as lines
use Rattle.command_text.specs.declared.reply.LastLine.TheVariants.{Done}
use Rattle.mail_tree.specs.declared.places.FolderPlace.{FolderPlace}
use Rattle.mail_tree.specs.mail_objects.Forms.{Ctx, Tbl}
use Rattle.mail_tree.specs.mail_objects.declared.object.Object.TheVariants.{Context, Table}
use Rattle.mail_tree.specs.Columns.{contents_table, hierarchy_table}
use Rattle.mail_tree.specs.Places.{ROOT, children, is_child, is_plain, moves_deep, place_id}
use Rattle.mail_tree.specs.Tree.{Tree}
use Rattle.mail_tree.specs.Values.{folder_props, is_special, name_of, number_of, text, text_of}
use Rattle.mail_tree.specs.Changing.{Answer, Changed, ◌>>=◌, add_shown, associated, contents, context_at, drop_shown, hierarchy, message_at, nothing, refused_if, table_at, with_object}
use Rattle.mail_tree.specs.Settling.{message_ids, mirrored, settled, with_context}
use Rattle.mail_tree.specs.Folders.{Outcome, associated_in, folder_in, has_associated, has_rows, listed, moved_between, moving, nid, place, replied, siblings, unchanged, unless_named, unless_plain, with_folder, without_folder}
use Rattle.mail_draft.specs.declared.stop.Stop.{Stop}
use Rattle.mail_draft.specs.Answers.{Says}
use Rattle.mail_draft.specs.Sight.{Sight}

-- where a folder stands that holds folders and messages
unfoldable pub plain_in : Tree → ℕ → Answer FolderPlace
plain_in T f = folder_in T f >>= λ p. unless_plain p >>= λ u. Ok p

-- where the first of two such folders stands; what isn't there comes before what is of another sort
unfoldable pub both_plain_in : Tree → ℕ → ℕ → Answer FolderPlace
both_plain_in T f g = folder_in T f >>= λ p. folder_in T g >>= λ q. unless_plain p >>= λ u. unless_plain q >>= λ v. Ok p

-- the folder's name
unfoldable pub name_in : Tree → ℕ → Answer (List ℕ)
name_in T f = context_at T nothing f >>= λ c. Ok (name_of c.props)

-- whether the folder has this name, whose case is folded
unfoldable pub has_name : Tree → List ℕ → ℕ → Answer Bool
has_name T name f = context_at T nothing f >>= λ c. Ok (pointwise nat_eq (folded false (name_of c.props)) name)

-- the folder is the root, or one that the store with these values names
abbrev pub unless_special : ℕ → List Val → Answer (Unit {0})
unless_special f store = refused_if ((f == ROOT) || is_special f store) Protected

-- the table has as many rows as a command may bring it to
abbrev pub unless_long : Tbl → Answer (Unit {0})
unless_long t = refused_if (nat_le 100000 (length t.table.rows)) (Limit Rows)

-- the three tables of a new folder
abbrev pub with_tables : ℕ → Changed → Changed
with_tables f D = with_object (associated f) (Some (Table contents_table)) (with_object (contents f) (Some (Table contents_table)) (with_object (hierarchy f) (Some (Table hierarchy_table)) D))

-- the nodes of a new folder, and its row
abbrev pub adding_folder : Tree → ℕ → ℕ → List ℕ → Changed → Answer Changed
adding_folder T f parent name D = add_shown T (hierarchy parent) f (folder_props name) (with_folder f parent name D)

-- the nodes of a new folder and its row, with its parent counted anew, where the folders then stand at these places
unfoldable pub counted_folder : Tree → ℕ → ℕ → List ℕ → List FolderPlace → Answer Changed
counted_folder T f parent name places = adding_folder T f parent name nothing >>= settled T places parent

-- the folder has this name, whose case is folded
unfoldable pub unless_has_name : Tree → List ℕ → ℕ → Answer (Unit {0})
unless_has_name T name f = context_at T nothing f >>= λ c. refused_if (pointwise nat_eq (folded false (name_of c.props)) name) NameTaken

-- a folder in the parent has this name
abbrev pub unless_child_named : Tree → ℕ → List ℕ → Answer (Unit {0})
unless_child_named T parent name = unless_named T (folded false name) (children parent T.places)

-- another folder in the folder's parent has this name
abbrev pub unless_beside : Tree → ℕ → ℕ → List ℕ → Answer (Unit {0})
unless_beside T parent f name = unless_named T (folded false name) (siblings T parent f)

-- the folder gets the name, and its row shows it
unfoldable pub named_anew : Tree → ℕ → List ℕ → Answer Changed
named_anew T f name = context_at T nothing f >>= λ c. mirrored T f (with_context f c (put (text 0x3001 name) c.props) nothing)

-- the folder's properties have another parent
abbrev pub with_parent : ℕ → Ctx → ℕ → Changed → Changed
with_parent f c parent D = with_object f (Some (Context (record c { parent = parent }))) D

-- the folder's row is added to its new parent's table, and both parents are counted anew
unfoldable pub added_between : Tree → ℕ → ℕ → ℕ → List FolderPlace → List Val → Changed → Answer Changed
added_between T f from to places props D = add_shown T (hierarchy to) f props D >>= settled T places from >>= settled T places to

-- a folder in that parent has the name that this one has
unfoldable pub unless_crowds_name : Tree → ℕ → ℕ → Answer (Unit {0})
unless_crowds_name T f parent = context_at T nothing f >>= λ c. unless_named T (folded false (name_of c.props)) (children parent T.places)

-- the folder f moves from one parent to another, and stands there
unfoldable pub placing_folder : Tree → ℕ → ℕ → ℕ → Answer Outcome
placing_folder T f from to = let places = put_key place_id (place f to) T.places in moved_between T f from to places >>= moving T places (replied Done)

-- the folder f moves to another parent than it has
unfoldable pub moving_folder : Tree → ℕ → ℕ → ℕ → Answer Outcome
moving_folder T f from to = unless_crowds_name T f to >>= λ u. refused_if (moves_deep T.places f to) (Limit Depth) >>= λ v. placing_folder T f from to

-- whether the table at an id has rows
unfoldable pub has_rows_in : Tree → ℕ → Answer Bool
has_rows_in T q = table_at T nothing q >>= λ t. Ok (has_rows t)

-- whether the folder's table of associated messages, which may be missing, has rows
unfoldable pub has_associated_in : Tree → ℕ → Answer Bool
has_associated_in T f = associated_in T f >>= λ t. Ok (has_associated t)

-- one of the folder's tables has rows
unfoldable pub unless_filled : Tree → ℕ → Answer (Unit {0})
unless_filled T f = has_rows_in T (hierarchy f) >>= λ a. has_rows_in T (contents f) >>= λ b. has_associated_in T f >>= λ c. refused_if (a || (b || c)) NotEmpty

-- the three nodes go that each folder has
abbrev pub without_nodes : ℕ → Changed → Changed
without_nodes f D = with_object (contents f) None (with_object (hierarchy f) None (with_object f None D))

-- the folder in that parent goes, with its row, and the parent is counted anew
unfoldable pub removing_folder : Tree → ℕ → ℕ → Answer Outcome
removing_folder T f parent =
    let places = drop_key place_id f T.places in
    drop_shown T (hierarchy parent) f (without_folder T f nothing) >>= settled T places parent >>= moving T places (replied Done)

-- the line of a folder with this name
abbrev pub line_named : FolderPlace → List ℕ → DataLine
line_named p name = if is_plain p then lines.Folder p.nid name else lines.Foreign p.nid name

-- the line of the folder at a place
unfoldable pub line_of_folder : Tree → FolderPlace → Answer DataLine
line_of_folder T p = name_in T p.nid.bits >>= λ name. Ok (line_named p name)

-- the subject of a message
unfoldable pub read_subject : Tree → ℕ → Answer (List ℕ)
read_subject T m = message_at T nothing m >>= λ M. Ok (text_of 0x0037 M.props)

-- the line of a message that is known: what it tells of its size, and its subject
abbrev pub message_line : ℕ → Mes → DataLine
message_line m M = lines.Message (nid m) (number_of 0x0E08 M.props) (text_of 0x0037 M.props)

-- the line of a message
unfoldable pub line_of_message : Tree → ℕ → Answer DataLine
line_of_message T m = message_at T nothing m >>= λ M. Ok (message_line m M)

-- what each gives, one after the other
abbrev pub each : {A B : Type 0} → (A → Answer B) → List A → Answer (List B)
each f [] = Ok []
each f (x ∷ xs) = f x >>= λ y. each f xs >>= λ ys. Ok (y ∷ ys)

-- The result, seen by view, is what is told of the message at an id, if what is known of it is so.
abbrev pub TellsOf : {A X Y : Type 0} → Sight A → ℕ → (Mes → Type 0) → (Mes → X) → (Y → X) → Result Y Stop → Type 0
TellsOf desk m IsSo tell view result = (T : Tree) → desk.shows T → (M : Mes) → message_at T nothing m ≡ Ok M → IsSo M → Says view (Ok (tell M)) result

-- the ids of the messages in a folder
unfoldable pub ids_in : Tree → ℕ → Answer (List ℕ)
ids_in T f = table_at T nothing (contents f) >>= λ t. Ok (message_ids t.table)

-- the lines of the messages in a folder
unfoldable pub lines_of_messages : Tree → ℕ → Answer (List DataLine)
lines_of_messages T f = ids_in T f >>= each (line_of_message T)

-- these lines, and behind them those of the messages in a folder
unfoldable pub with_messages : Tree → ℕ → List DataLine → Answer (List DataLine)
with_messages T f folders = lines_of_messages T f >>= λ messages. Ok (folders ++ messages)

-- the lines of the folders in a folder
abbrev pub lines_of_children : Tree → ℕ → Answer (List DataLine)
lines_of_children T f = each (line_of_folder T) (filter (is_child f) T.places)

-- the lines of the folders and of the messages in a folder
unfoldable pub lines_in : Tree → ℕ → Answer (List DataLine)
lines_in T f = lines_of_children T f >>= with_messages T f

-- what is listed of a plain folder
unfoldable pub plain_listing : Tree → ℕ → Answer Outcome
plain_listing T f = lines_in T f >>= λ all. Ok (unchanged T (listed all))
