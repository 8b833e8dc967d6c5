-- The commands on search folders, part by part.
use Rattle.std.specs.Prelude.{ℕ, ◌/◌, ◌%◌, ◌==◌, ◌&&◌, ◌++◌, Bool, false, max, nat_le, not, List, [], ◌∷◌, map, None, Some, Ok, Err, if◌then◌else◌}
use Rattle.mapi_values.specs.Characters.{folded}
use Rattle.mapi_values.specs.Keyed.{put_key}
use Rattle.mapi_values.specs.Values.{Val}
use Rattle.mapi_values.specs.declared.column.Column.{Column}
use Rattle.command_text.specs.declared.reply.CommandRefusal.TheVariants.{Limit, Reserved}
use Rattle.command_text.specs.declared.reply.DataLine.{DataLine}
use Rattle.command_text.specs.declared.reply.LastLine.TheVariants.{Done}
use Rattle.command_text.specs.declared.reply.Limit.TheVariants.{Depth}
use Rattle.mail_objects.specs.Forms.{Ctx}
use Rattle.mail_objects.specs.declared.object.Object.TheVariants.{Bare, Table}
use Rattle.mail_tree.specs.declared.places.FolderPlace.{FolderPlace}
use Rattle.mail_tree.specs.Changing.{Answer, Changed, ◌>>=◌, add_shown, as_message, contents, context_at, hierarchy, message_at, nothing, now_at, refused_if, table_at, with_object}
use Rattle.mail_tree.specs.Columns.{contents_table}
use Rattle.mail_tree.specs.Folders.{Outcome, folder_in, listing, nid, replied, replying, unchanged, unless_full, unless_named, unless_plain}
use Rattle.mail_tree.specs.Ids.{LAST_INDEX}
use Rattle.mail_tree.specs.Places.{children, is_deep, is_plain, place_id}
use Rattle.mail_tree.specs.Settling.{message_ids, settled}
use Rattle.mail_tree.specs.Tree.{Tree}
use Rattle.mail_tree.specs.Values.{folder_props}
use Rattle.search_obj.specs.Crits.{Crit}
use Rattle.mail_searches.specs.Building.{found_among, with_found}
use Rattle.mail_searches.specs.Criteria.{Coming, built_unless, criteria_in, criteria_line, marked, message_line, next_search_index, no_criteria, overfills, search_listing, staying, unless_listless, with_search}
use Rattle.mail_searches.specs.Relisting.{before_those, is_unclear}
use Rattle.mail_searches.specs.Searches.{Search, criteria_node, in_scope, results, search_id, updates}
use Rattle.mail_searches.specs.Searching.{Searching, is_own}

-- the lines so far, with that of the message that a row of this id names, if it names one
unfoldable pub named_line : Tree → List DataLine → ℕ → Answer (List DataLine)
named_line T lines q = if is_unclear T nothing q then Err None else Ok (lines ++ map message_line (before_those (as_message (now_at T nothing q)) []))

-- the lines so far, with those of the messages that these rows name
abbrev pub named_lines : Tree → List DataLine → List (ℕ × List Val) → Answer (List DataLine)
named_lines T lines [] = Ok lines
named_lines T lines (r ∷ rs) = named_line T lines r.0 >>= λ more. named_lines T more rs

-- the index of the search folder whose id this is, or 0
abbrev pub row_index : ℕ → ℕ
row_index id = if (id % 32 == 3) && nat_le (id / 32) LAST_INDEX then id / 32 else 0

-- the greatest index of a search folder that these rows name, or 0
abbrev pub greatest_row : List (ℕ × List Val) → ℕ
greatest_row [] = 0
greatest_row (r ∷ rs) = max (row_index r.0) (greatest_row rs)

-- the same of a folder's table of folders, if the folder is plain
unfoldable pub greatest_at : Tree → FolderPlace → Answer ℕ
greatest_at T p = if is_plain p then (table_at T nothing (hierarchy (place_id p)) >>= λ t. Ok (greatest_row t.table.rows)) else Ok 0

-- the same of the tables of all these folders
abbrev pub greatest_among : Tree → List FolderPlace → Answer ℕ
greatest_among T [] = Ok 0
greatest_among T (p ∷ ps) = greatest_at T p >>= λ n. greatest_among T ps >>= λ m. Ok (max n m)

-- the criteria object of a search, and the criteria that it says
unfoldable pub criteria_at : Tree → ℕ → Answer (Ctx × Crit)
criteria_at T s = context_at T nothing (criteria_node s) >>= λ c. criteria_in c >>= λ k. Ok (c, k)

-- a search of this name can't be made in the parent, but for the limits on what is written
unfoldable pub unless_refused : Tree → ℕ → List ℕ → Answer (Unit {0})
unless_refused T parent name = folder_in T parent >>= λ p. unless_plain p >>= λ u. unless_named T (folded false name) (children parent T.places) >>= λ v. refused_if (is_deep T.places parent) (Limit Depth) >>= λ w.
    unless_full T (hierarchy parent)

-- the rows with one that shows the message with this id, if the search finds it
unfoldable pub found_at : Tree → Search → List Column → ℕ → List (ℕ × List Val) → Answer (List (ℕ × List Val))
found_at T s columns m rows = message_at T nothing m >>= λ M. Ok (with_found s columns m M rows)

-- the rows with those of the messages that the search finds in this folder, if it looks there
unfoldable pub found_in : Tree → Search → List Column → ℕ → List (ℕ × List Val) → Answer (List (ℕ × List Val))
found_in T s columns f rows = if in_scope T.places s f then (table_at T nothing (contents f) >>= λ t. found_among T s columns (message_ids t.table) rows) else Ok rows

-- a search, whose criteria these changes say, comes in place of the one with its folder, and its list is built unless it is stopped
unfoldable pub setting : Searching → Search → Bool → Changed → Answer Coming
setting X search stopped D = let searches = put_key search_id search X.searches in
    built_unless stopped X.tree search D >>= replying X.tree (overfills X.searches searches) (replied Done) >>= λ o. Ok (record { outcome = o; own = X.own; searches = searches })

-- the answer of a command that leaves the searches as they are
abbrev pub stays_after : Searching → Answer Outcome → Answer Coming
stays_after X a = a >>= staying X

-- the index of the next search, if each plain folder has its table of folders
abbrev pub search_index : Tree → Answer ℕ
search_index T = unless_listless T >>= λ u. Ok (next_search_index T)

-- the folder isn't one of these own search folders
abbrev pub unless_among : Tree → List ℕ → ℕ → Answer (Unit {0})
unless_among T own s = folder_in T s >>= λ p. refused_if (not (is_own own s)) Reserved

-- what was set of a search, where these search folders are own
unfoldable pub told_where : Tree → List ℕ → ℕ → Answer Outcome
told_where T own s = unless_among T own s >>= λ u. criteria_at T s >>= λ p. Ok (unchanged T (replied (criteria_line p.1.set)))

-- what is listed of a folder, where these search folders are own
unfoldable pub listing_where : Tree → List ℕ → ℕ → Answer Outcome
listing_where T own f = if is_own own f then search_listing T f else (listing T f >>= λ o. Ok (record o { reply = marked own o.reply }))

-- the nodes that a new search has beside its folder
abbrev pub with_nodes : ℕ → Changed → Changed
with_nodes s D = with_object (results s) (Some (Table contents_table)) (with_object (criteria_node s) (Some no_criteria) (with_object (updates s) (Some (Bare (nid 0))) D))

-- the nodes of a new search, and its row
abbrev pub adding_search : Tree → ℕ → ℕ → List ℕ → Changed → Answer Changed
adding_search T s parent name D = add_shown T (hierarchy parent) s (folder_props name) (with_search s parent name D)

-- the nodes of a new search and its row, with its parent counted anew, where the folders then stand at these places
unfoldable pub added_search : Tree → ℕ → ℕ → List ℕ → List FolderPlace → Answer Changed
added_search T s parent name places = adding_search T s parent name nothing >>= settled T places parent
