-- The commands on folders: what each refuses, in its order, and what it changes.
use Rattle.std.specs.Prelude.{ℕ, ◌==◌, Bool, true, false, not, nat_eq, nat_le, List, [], ◌∷◌, ◌++◌, filter, length, set, Option, None, Some, Ok, Err, if◌then◌else◌, ◌||◌}
use Rattle.std.specs.Cmp.Lexicographic.{pointwise}
use Rattle.pst_base.specs.declared.ids.Nid.{Nid}
use Rattle.mapi_values.specs.Characters.{folded}
use Rattle.mapi_values.specs.Keyed.{put_key, drop_key}
use Rattle.mapi_values.specs.Properties.{put}
use Rattle.mapi_values.specs.Values.{Val}
use Rattle.command_text.specs.declared.reply.CommandRefusal.{CommandRefusal}
use Rattle.command_text.specs.declared.reply.CommandRefusal.TheVariants.{Object as NoObject, NameTaken, NotEmpty, Cycle, Reserved, Protected, Limit, Ids}
use Rattle.command_text.specs.declared.reply.Limit.TheVariants.{Depth, Rows}
use Rattle.command_text.specs.declared.reply.DataLine.{DataLine}
use Rattle.command_text.specs.declared.reply.DataLine.TheVariants as lines
use Rattle.command_text.specs.declared.reply.LastLine.{LastLine}
use Rattle.command_text.specs.declared.reply.LastLine.TheVariants.{Done, Made, Count}
use Rattle.command_text.specs.declared.reply.Reply.{Reply}
use Rattle.mail_objects.specs.Forms.{Tbl}
use Rattle.mail_objects.specs.declared.object.Object.TheVariants as objects
use Rattle.mail_tree.specs.declared.places.FolderPlace.{FolderPlace}
use Rattle.mail_tree.specs.declared.places.Sort.TheVariants.{Plain}
use Rattle.mail_tree.specs.Places.{ROOT, children, find_place, is_child, is_deep, is_plain, is_within, moves_deep, place_id}
use Rattle.mail_tree.specs.Tree.{Tree}
use Rattle.mail_tree.specs.Values.{folder_props, is_special, name_of, number_of, text, text_of}
use Rattle.mail_tree.specs.Changing.{Answer, Changed, ◌>>=◌, add_shown, associated, contents, context_at, drop_shown, found, hierarchy, message_at, nothing, refused_if, table_at, with_object, within_limits}
use Rattle.mail_tree.specs.Settling.{message_ids, mirrored, settled, with_context}
use Rattle.mail_tree.specs.Ids.{folder_kinds, is_spent, is_taken, new_id, next_index}
use Rattle.mail_tree.specs.Columns.{contents_table, hierarchy_table}

abbrev pub nid : ℕ → Nid
nid bits = record { bits = bits }

-- a reply of one line
abbrev pub replied : LastLine → Reply
replied last = record { lines = []; last = last }

-- a reply of lines of data and their number
abbrev pub listed : List DataLine → Reply
listed data_lines = record { lines = data_lines; last = Count (length data_lines) }

-- the id of the object that a command made, by the last line of its reply
abbrev pub made_id : LastLine → Option Nid
made_id (Made made) = Some made
made_id other = None

-- What a command comes to: the objects that it changes, the places of the folders after it, the counters after it, and the reply.
pub record Outcome : Type 0 where
  pub changed : Changed
  pub places : List FolderPlace
  pub last : List ℕ
  pub reply : Reply

-- nothing changes
abbrev pub unchanged : Tree → Reply → Outcome
unchanged T reply = record { changed = nothing; places = T.places; last = T.last; reply = reply }

-- the changes keep to the limits, and the places and counters stay
abbrev pub changing : Tree → Reply → Changed → Answer Outcome
changing T reply D = within_limits T None D >>= λ u. Ok (record { changed = D; places = T.places; last = T.last; reply = reply })

-- the command is refused where there is a reason
abbrev pub unless : Option CommandRefusal → Answer (Unit {0})
unless None = Ok tt
unless (Some refusal) = Err (Some refusal)

-- the changes keep to the limits, there is no other reason against them, and the places and counters stay
abbrev pub replying : Tree → Option CommandRefusal → Reply → Changed → Answer Outcome
replying T reason reply D = within_limits T None D >>= λ u. unless reason >>= λ v. Ok (record { changed = D; places = T.places; last = T.last; reply = reply })

-- the same, where folders come, go or move
abbrev pub moving : Tree → List FolderPlace → Reply → Changed → Answer Outcome
moving T places reply D = within_limits T None D >>= λ u. Ok (record { changed = D; places = places; last = T.last; reply = reply })

-- the same with a new object of a kind at this index, which the kind's counter then has, unless it is past the last one
abbrev pub making : Tree → List FolderPlace → ℕ → ℕ → Changed → Answer Outcome
making T places kind index D = within_limits T (Some (nid (new_id kind index))) D >>= λ u. refused_if (is_spent index) Ids >>= λ v. Ok (record { changed = D; places = places; last = set T.last kind index; reply = replied (Made (nid (new_id kind index))) })

abbrev pub folder_in : Tree → ℕ → Answer FolderPlace
folder_in T f = found NoObject (find_place f T.places)

-- the folder isn't one that holds folders and messages
abbrev pub unless_plain : FolderPlace → Answer (Unit {0})
unless_plain p = refused_if (not (is_plain p)) Reserved

-- the folder is the root, or one that the store names
unfoldable pub unless_protected : Tree → ℕ → Answer (Unit {0})
unless_protected T f = context_at T nothing 0x21 >>= λ store. refused_if ((f == ROOT) || is_special f store.props) Protected

-- one of these folders has this name, whose case is folded
abbrev pub unless_named : Tree → List ℕ → List ℕ → Answer (Unit {0})
unless_named T name [] = Ok tt
unless_named T name (f ∷ fs) = context_at T nothing f >>= λ c. refused_if (pointwise nat_eq (folded false (name_of c.props)) name) NameTaken >>= λ u. unless_named T name fs

-- the folders in a parent but for this one
abbrev pub siblings : Tree → ℕ → ℕ → List ℕ
siblings T parent f = filter (λ g. not (g == f)) (children parent T.places)

-- the nodes of a new folder: its values, and three tables without rows
abbrev pub with_folder : ℕ → ℕ → List ℕ → Changed → Changed
with_folder f parent name D =
    with_object (associated f) (Some (objects.Table contents_table)) (with_object (contents f) (Some (objects.Table contents_table)) (with_object (hierarchy f) (Some (objects.Table hierarchy_table))
    (with_object f (Some (objects.Context (record { parent = parent; props = folder_props name; kept = [] }))) D)))

abbrev pub place : ℕ → ℕ → FolderPlace
place f parent = record { nid = nid f; parent = nid parent; sort = Plain }

-- a table has as many rows as a command may bring it to
unfoldable pub unless_full : Tree → ℕ → Answer (Unit {0})
unless_full T q = table_at T nothing q >>= λ t. refused_if (nat_le 100000 (length t.table.rows)) (Limit Rows)

-- a new folder of this index: its parent lists it in a row that shows it, and is counted anew
unfoldable pub making_folder : Tree → ℕ → List ℕ → ℕ → Answer Outcome
making_folder T parent name index =
    let f = new_id 2 index in let places = put_key place_id (place f parent) T.places in
    add_shown T (hierarchy parent) f (folder_props name) (with_folder f parent name nothing) >>= settled T places parent >>= making T places 2 index

-- `mkdir`
unfoldable pub made_folder : Tree → ℕ → List ℕ → Answer Outcome
made_folder T parent name = folder_in T parent >>= λ p. unless_plain p >>= λ u. unless_named T (folded false name) (children parent T.places) >>= λ v.
    refused_if (is_deep T.places parent) (Limit Depth) >>= λ w. unless_full T (hierarchy parent) >>= λ x. making_folder T parent name (next_index T 2 folder_kinds)

-- `rename`
unfoldable pub renamed_folder : Tree → ℕ → List ℕ → Answer Outcome
renamed_folder T f name = folder_in T f >>= λ p. unless_plain p >>= λ u. unless_protected T f >>= λ v.
    unless_named T (folded false name) (siblings T p.parent.bits f) >>= λ w. context_at T nothing f >>= λ c.
    mirrored T f (with_context f c (put (text 0x3001 name) c.props) nothing) >>= changing T (replied Done)

-- the folder f moves from one parent to another
unfoldable pub moved_between : Tree → ℕ → ℕ → ℕ → List FolderPlace → Answer Changed
moved_between T f from to places = context_at T nothing f >>= λ c.
    drop_shown T (hierarchy from) f (with_object f (Some (objects.Context (record c { parent = to }))) nothing) >>= λ D.
    add_shown T (hierarchy to) f c.props D >>= settled T places from >>= settled T places to

-- `mvdir`
unfoldable pub moved_folder : Tree → ℕ → ℕ → Answer Outcome
moved_folder T f parent = folder_in T f >>= λ p. folder_in T parent >>= λ q. unless_plain p >>= λ u. unless_plain q >>= λ v. unless_protected T f >>= λ w.
    refused_if (is_within T.places f parent) Cycle >>= λ x.
    if p.parent.bits == parent then Ok (unchanged T (replied Done)) else (context_at T nothing f >>= λ c.
    unless_named T (folded false (name_of c.props)) (children parent T.places) >>= λ y. refused_if (moves_deep T.places f parent) (Limit Depth) >>= λ z.
    let places = put_key place_id (place f parent) T.places in
    moved_between T f p.parent.bits parent places >>= moving T places (replied Done))

abbrev pub has_rows : Tbl → Bool
has_rows t = not (length t.table.rows == 0)

-- a folder's table of associated messages, which may be missing, has rows
abbrev pub has_associated : Option Tbl → Bool
has_associated None = false
has_associated (Some t) = has_rows t

-- the node at an id goes, if there is one
abbrev pub without_node : ℕ → Bool → Changed → Changed
without_node q false D = D
without_node q true D = with_object q None D

-- the nodes of a folder go, the table of associated messages where it is there
abbrev pub without_folder : Tree → ℕ → Changed → Changed
without_folder T f D = without_node (associated f) (is_taken T (associated f)) (with_object (contents f) None (with_object (hierarchy f) None (with_object f None D)))

-- the table at an id, if there is a node; a node that is none isn't of its form
abbrev pub table_if : Tree → ℕ → Bool → Answer (Option Tbl)
table_if T q false = Ok None
table_if T q true = table_at T nothing q >>= λ t. Ok (Some t)

-- the table of associated messages
abbrev pub associated_in : Tree → ℕ → Answer (Option Tbl)
associated_in T f = table_if T (associated f) (is_taken T (associated f))

-- `rmdir`
unfoldable pub removed_folder : Tree → ℕ → Answer Outcome
removed_folder T f = folder_in T f >>= λ p. unless_plain p >>= λ u. unless_protected T f >>= λ v. table_at T nothing (hierarchy f) >>= λ a. table_at T nothing (contents f) >>= λ b.
    associated_in T f >>= λ c. refused_if (has_rows a || (has_rows b || has_associated c)) NotEmpty >>= λ w.
    let places = drop_key place_id f T.places in
    drop_shown T (hierarchy p.parent.bits) f (without_folder T f nothing) >>= settled T places p.parent.bits >>= moving T places (replied Done)

-- the line of a folder
abbrev pub folder_line : FolderPlace → List Val → DataLine
folder_line p props = if is_plain p then lines.Folder p.nid (name_of props) else lines.Foreign p.nid (name_of props)

abbrev pub folder_lines : Tree → List FolderPlace → Answer (List DataLine)
folder_lines T [] = Ok []
folder_lines T (p ∷ ps) = context_at T nothing p.nid.bits >>= λ c. folder_lines T ps >>= λ more. Ok (folder_line p c.props ∷ more)

-- the lines of messages: what they tell of their size, and their subjects
abbrev pub message_lines : Tree → List ℕ → Answer (List DataLine)
message_lines T [] = Ok []
message_lines T (m ∷ ms) = message_at T nothing m >>= λ M. message_lines T ms >>= λ more. Ok (lines.Message (nid m) (number_of 0x0E08 M.props) (text_of 0x0037 M.props) ∷ more)

-- `ls`: the folders in a folder and then its messages, each ascending by id; nothing of a search folder of another program
unfoldable pub listing : Tree → ℕ → Answer Outcome
listing T f = folder_in T f >>= λ p. if is_plain p then
    (folder_lines T (filter (is_child f) T.places) >>= λ folders. table_at T nothing (contents f) >>= λ t. message_lines T (message_ids t.table) >>= λ messages.
    Ok (unchanged T (listed (folders ++ messages))))
    else Ok (unchanged T (listed []))
