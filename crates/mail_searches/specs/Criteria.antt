-- The commands on search folders: what each refuses, in its order, and what it changes.
use Rattle.std.specs.Prelude.{ℕ, ◌^◌, ◌&&◌, ◌||◌, Bool, true, false, not, nat_lt, suc, max, get_or, List, [], ◌∷◌, length, map, Option, None, Some, Result, Ok, Err, if◌then◌else◌}
use Rattle.std.specs.List.{list_all, list_any}
use Rattle.std.specs.Option.{is_some}
use Rattle.pst_base.specs.Ids.{nid_of}
use Rattle.mapi_values.specs.Characters.{folded}
use Rattle.mapi_values.specs.Keyed.{put_key}
use Rattle.mapi_values.specs.Messages.{Mes}
use Rattle.mapi_values.specs.Tables.{find_row}
use Rattle.restr_codec.specs.Reading.{reading}
use Rattle.restr_codec.specs.Restr.{Restr}
use Rattle.restr_codec.specs.Spelling.{has_spelling, spelling}
use Rattle.restr_codec.specs.declared.reading.BadRestriction.{BadRestriction}
use Rattle.search_obj.specs.Changing.{changed, unset}
use Rattle.search_obj.specs.Crits.{Crit, CritSet}
use Rattle.search_obj.specs.Flags.{are_allowed, flags_of, number_of_flags, state_of}
use Rattle.search_obj.specs.Scope.{is_among}
use Rattle.search_obj.specs.Writing.{is_id, written}
use Rattle.mail_tree.specs.command_text.declared.reply.CommandRefusal.{CommandRefusal}
use Rattle.mail_tree.specs.command_text.declared.reply.CommandRefusal.TheVariants as refusals
use Rattle.mail_tree.specs.command_text.declared.reply.DataLine.{DataLine}
use Rattle.mail_tree.specs.command_text.declared.reply.DataLine.TheVariants as lines
use Rattle.mail_tree.specs.command_text.declared.reply.LastLine.{LastLine}
use Rattle.mail_tree.specs.command_text.declared.reply.LastLine.TheVariants.{Criteria, Done, NoCriteria}
use Rattle.mail_tree.specs.command_text.declared.reply.Limit.TheVariants.{Depth, Searches}
use Rattle.mail_tree.specs.command_text.declared.reply.Reply.{Reply}
use Rattle.mail_tree.specs.mail_objects.Forms.{Ctx, Tbl}
use Rattle.mail_tree.specs.mail_objects.declared.object.Object.{Object}
use Rattle.mail_tree.specs.mail_objects.declared.object.Object.TheVariants as objects
use Rattle.mail_tree.specs.declared.places.FolderPlace.{FolderPlace}
use Rattle.mail_tree.specs.declared.places.Sort.TheVariants.{Foreign}
use Rattle.mail_tree.specs.Places.{children, is_deep, is_plain, place_id}
use Rattle.mail_tree.specs.Tree.{Tree, object_at}
use Rattle.mail_tree.specs.Values.{folder_props, number_of, text_of}
use Rattle.mail_tree.specs.Changing.{Answer, Changed, ◌>>=◌, add_shown, as_table, context_at, found, hierarchy, known, nothing, refused_if, table_at, with_object}
use Rattle.mail_tree.specs.Settling.{settled, with_context}
use Rattle.mail_tree.specs.Columns.{contents_table}
use Rattle.mail_tree.specs.Ids.{LAST_INDEX, greatest, is_used, new_id}
use Rattle.mail_tree.specs.Folders.{Outcome, folder_in, listed, making, nid, replied, replying, unchanged, unless_full, unless_named, unless_plain}
use Rattle.mail_searches.specs.Building.{built}
use Rattle.mail_searches.specs.Relisting.{named, unless_unclear}
use Rattle.mail_searches.specs.Searches.{Search, criteria_node, criteria_of, is_plain_at, results, search_id, search_of, updates}
use Rattle.mail_searches.specs.Searching.{Searching, is_own}

-- What a command comes to where there are searches: what it comes to in the tree, and after it the own search folders and the searches with criteria.
pub record Coming : Type 0 where
  pub outcome : Outcome
  pub own : List ℕ
  pub searches : List Search

-- the searches stay
abbrev pub staying : Searching → Outcome → Answer Coming
staying X o = Ok (record { outcome = o; own = X.own; searches = X.searches })

-- the kinds of a search folder's nodes
abbrev pub search_kinds : List ℕ
search_kinds = 0x03 ∷ 0x06 ∷ 0x07 ∷ 0x10 ∷ []

-- the table, if it is one, has a row of this id
abbrev pub has_row : ℕ → Option Tbl → Bool
has_row id None = false
has_row id (Some t) = is_some (find_row id t.table.rows)

-- a plain folder's table of folders has a row of this id, whether that names something or not
abbrev pub is_row_of_folder : Tree → ℕ → Bool
is_row_of_folder T id = list_any (λ p. is_plain p && has_row id (as_table (object_at T (hierarchy (place_id p))))) T.places

-- the index is that of a search's node, or of one that a table of folders lists
abbrev pub is_search_index : Tree → ℕ → Bool
is_search_index T index = is_used T search_kinds index || is_row_of_folder T (nid_of 0x03 index)

-- the index that follows the counter of search folders and all that are in use
unfoldable pub next_search_index : Tree → ℕ
next_search_index T = suc (max (get_or T.last 3 0) (greatest (is_search_index T) LAST_INDEX))

-- a plain folder has its table of folders
abbrev pub has_list : Tree → FolderPlace → Bool
has_list T p = not (is_plain p) || is_some (as_table (object_at T (hierarchy (place_id p))))

-- each plain folder has it, or something isn't of its form: a node that is none of the tree's tables may look like one
abbrev pub unless_listless : Tree → Answer (Unit {0})
unless_listless T = known (if list_all (has_list T) T.places then Some tt else None)

-- the place of a search folder
abbrev pub search_place : ℕ → ℕ → FolderPlace
search_place s parent = record { nid = nid s; parent = nid parent; sort = Foreign }

-- the criteria object of a new search, which has none
abbrev pub no_criteria : Object
no_criteria = objects.Context (record { parent = 0; props = written unset []; kept = [] })

-- the nodes of a new search: its values, the node of its updates, its criteria object, and its list, which is empty
abbrev pub with_search : ℕ → ℕ → List ℕ → Changed → Changed
with_search s parent name D = with_object (results s) (Some (objects.Table contents_table)) (with_object (criteria_node s) (Some no_criteria)
    (with_object (updates s) (Some (objects.Bare (nid 0))) (with_object s (Some (objects.Context (record { parent = parent; props = folder_props name; kept = [] }))) D)))

-- a new search of this index: its parent lists it in a row that shows it, and is counted anew
unfoldable pub making_search : Tree → ℕ → List ℕ → ℕ → Answer Outcome
making_search T parent name index =
    let s = new_id 3 index in let places = put_key place_id (search_place s parent) T.places in
    add_shown T (hierarchy parent) s (folder_props name) (with_search s parent name nothing) >>= settled T places parent >>= making T places 3 index

-- what `mksearch` comes to in the tree
unfoldable pub making_search_in : Tree → ℕ → List ℕ → ℕ → Answer Outcome
making_search_in T parent name index = folder_in T parent >>= λ p. unless_plain p >>= λ u. unless_named T (folded false name) (children parent T.places) >>= λ v.
    refused_if (is_deep T.places parent) (refusals.Limit Depth) >>= λ w. unless_full T (hierarchy parent) >>= λ x. making_search T parent name index

-- `mksearch`
unfoldable pub made_search : Searching → ℕ → List ℕ → Answer Coming
made_search X parent name = unless_listless X.tree >>= λ u. let index = next_search_index X.tree in making_search_in X.tree parent name index >>= λ o.
    Ok (record { outcome = o; own = put_key (λ f. f) (new_id 3 index) X.own; searches = X.searches })

-- the id is that of an own search folder
abbrev pub unless_other : Searching → ℕ → Answer (Unit {0})
unless_other X s = folder_in X.tree s >>= λ p. refused_if (not (is_own X.own s)) refusals.Reserved

-- the criteria that an object's values say
abbrev pub criteria_in : Ctx → Answer Crit
criteria_in c = known (criteria_of c.props)

-- the restriction, or that it can't be read from an offset on
abbrev pub if_readable : Result Restr BadRestriction → Answer (Option Restr)
if_readable (Ok r) = Ok (Some r)
if_readable (Err bad) = Err (Some (refusals.Restriction bad.at))

-- the restriction that the bytes of a line spell, if it gives one
abbrev pub given_restriction : Option (List ℕ) → Answer (Option Restr)
given_restriction None = Ok None
given_restriction (Some bytes) = if_readable (reading bytes)

-- an id stands there twice
abbrev pub repeats : List ℕ → Bool
repeats [] = false
repeats (id ∷ ids) = is_among ids id || repeats ids

-- the folders that a line gives, if it gives any: plain ones, each once
abbrev pub given_scope : Tree → Option (List ℕ) → Answer (Option (List ℕ))
given_scope T None = Ok None
given_scope T (Some ids) = refused_if (repeats ids || not (list_all (is_plain_at T.places) ids)) refusals.Scope >>= λ u. Ok (Some ids)

-- the list is built anew, but not that of a search that is stopped
abbrev pub built_unless : Bool → Tree → Search → Changed → Answer Changed
built_unless true T s D = Ok D
built_unless false T s D = built T s D

-- there would be more than 64 searches with criteria, and more than there were
abbrev pub overfills : List Search → List Search → Option CommandRefusal
overfills old new = if nat_lt 64 (length new) && nat_lt (length old) (length new) then Some (refusals.Limit Searches) else None

-- an object can hold what was set: flags that a search may have, ids of 4 bytes, a restriction that can be written, and builds that aren't negative; so are those of each line and of each object in a file
abbrev pub can_hold : CritSet → Bool
can_hold set = are_allowed set.flags && (list_all is_id set.scope && (has_spelling set.restriction && nat_lt set.builds (2 ^ 31)))

-- the search gets these criteria, if an object can hold them: its object says them, and its list is built
unfoldable pub setting_criteria : Searching → ℕ → Ctx → Crit → CritSet → Answer Coming
setting_criteria X s c k set = refused_if (not (can_hold set)) refusals.Criteria >>= λ u.
    let search = search_of s set in let searches = put_key search_id search X.searches in
    built_unless set.flags.stop X.tree search (with_context (criteria_node s) c (written k c.props) nothing) >>= replying X.tree (overfills X.searches searches) (replied Done) >>= λ o.
    Ok (record { outcome = o; own = X.own; searches = searches })

-- the search gets these criteria, which were set
unfoldable pub with_criteria : Searching → ℕ → Ctx → Crit → Answer Coming
with_criteria X s c k = known k.set >>= setting_criteria X s c k

-- `criteria`
unfoldable pub given_criteria : Searching → ℕ → ℕ → Option (List ℕ) → Option (List ℕ) → Answer Coming
given_criteria X s number scope bytes = unless_other X s >>= λ u. found refusals.Flags (flags_of number) >>= λ flags. given_restriction bytes >>= λ restriction. given_scope X.tree scope >>= λ ids.
    context_at X.tree nothing (criteria_node s) >>= λ c. criteria_in c >>= λ old. found refusals.Criteria (changed old flags ids restriction) >>= with_criteria X s c

-- the line that tells what was set of a search
abbrev pub criteria_line : Option CritSet → LastLine
criteria_line None = NoCriteria
criteria_line (Some s) = Criteria (number_of_flags s.flags) s.scope (spelling s.restriction) (state_of s.flags) s.builds

-- `getcriteria`
unfoldable pub told_criteria : Searching → ℕ → Answer Outcome
told_criteria X s = unless_other X s >>= λ u. context_at X.tree nothing (criteria_node s) >>= λ c. criteria_in c >>= λ old. Ok (unchanged X.tree (replied (criteria_line old.set)))

-- the line of a message: what it tells of its size, and its subject
abbrev pub message_line : Mes → DataLine
message_line M = lines.Message (nid M.nid) (number_of 0x0E08 M.props) (text_of 0x0037 M.props)

-- `ls` of an own search folder: the messages that its rows name, ascending by id
unfoldable pub search_listing : Tree → ℕ → Answer Outcome
search_listing T s = table_at T nothing (results s) >>= λ t. unless_unclear T nothing t.table.rows >>= λ u. Ok (unchanged T (listed (map message_line (named T nothing t.table.rows))))

-- a line of a folder's listing, where these search folders are own
abbrev pub marked_line : List ℕ → DataLine → DataLine
marked_line own (lines.Foreign n name) = if is_own own n.bits then lines.Search n name else lines.Foreign n name
marked_line own line = line

-- the reply of a folder's listing
abbrev pub marked : List ℕ → Reply → Reply
marked own reply = record reply { lines = map (marked_line own) reply.lines }
