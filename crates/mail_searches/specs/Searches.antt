-- The searches of a store, and what they list.
use Rattle.std.specs.Prelude.{◌≡◌, ℕ, ◌&&◌, Bool, true, false, IsSome, List, [], ◌∷◌, filter, map, Option, Some, if◌then◌else◌}
use Rattle.std.specs.List.{list_any}
use Rattle.std.specs.Option.{is_some, option_and_then, option_map}
use Rattle.std.specs.FinMap as map
use Rattle.mapi_values.specs.Keyed.{find_key}
use Rattle.mapi_values.specs.Messages.{Mes}
use Rattle.mapi_values.specs.Tables.{find_row}
use Rattle.mapi_values.specs.Values.{Val}
use Rattle.restr_codec.specs.Restr.{Restr}
use Rattle.restr_eval.specs.Eval.{eval, holds_of, subject}
use Rattle.search_obj.specs.declared.flags.SearchState.{SearchState}
use Rattle.search_obj.specs.declared.flags.SearchState.TheVariants.{Running, Static, Stopped}
use Rattle.search_obj.specs.Crits.{Crit, CritSet}
use Rattle.search_obj.specs.Found.{crit_found, version_found}
use Rattle.search_obj.specs.Flags.{state_of}
use Rattle.search_obj.specs.Scope.{is_among}
use Rattle.mail_tree.specs.mail_objects.Forms.{Tbl}
use Rattle.mail_tree.specs.mail_objects.declared.object.Object.TheVariants.{Table}
use Rattle.mail_tree.specs.declared.places.FolderPlace.{FolderPlace}
use Rattle.mail_tree.specs.Changing.{as_message, beside}
use Rattle.mail_tree.specs.Flags.{FlagList, known_flag}
use Rattle.mail_tree.specs.Places.{find_place, is_plain, path}
use Rattle.mail_tree.specs.Tree.{Tree, object_at}

-- A search with criteria: its folder, whether its list follows messages, whether it looks in folders below those that it is given, those, and what it asks of a message.
pub record Search : Type 0 where
  pub nid : ℕ
  pub state : SearchState
  pub recursive : Bool
  pub scope : List ℕ
  pub restriction : Restr

abbrev pub search_id : Search → ℕ
search_id s = s.nid

-- the search whose folder is this one
abbrev pub find_search : ℕ → List Search → Option Search
find_search f searches = find_key search_id f searches

-- the search whose folder is this one, with these criteria
abbrev pub search_of : ℕ → CritSet → Search
search_of nid c = record { nid = nid; state = state_of c.flags; recursive = c.flags.recursive; scope = c.scope; restriction = c.restriction }

-- the criteria that the values of a search's object say
unfoldable pub criteria_of : List Val → Option Crit
criteria_of props = option_and_then (λ version. crit_found version props) (version_found props)

-- the values of the object of this folder's search say criteria: the search is one of these where any are set, and else none of them
abbrev pub ShowsCriteria : List Search → ℕ → List Val → Type 0
ShowsCriteria searches f props = (c : Crit) × (criteria_of props ≡ Some c) × (find_search f searches ≡ option_map (search_of f) c.set)

abbrev pub is_running : SearchState → Bool
is_running Running = true
is_running Static = false
is_running Stopped = false

-- the search's list follows messages
abbrev pub runs : Search → Bool
runs s = is_running s.state

-- the table of what a search lists
abbrev pub results : ℕ → ℕ
results s = beside s 0x10

-- the criteria object of a search
abbrev pub criteria_node : ℕ → ℕ
criteria_node s = beside s 0x07

-- the node of a search to which other programs write its updates
abbrev pub updates : ℕ → ℕ
updates s = beside s 0x06

-- there is a plain folder with this id
abbrev pub is_plain_at : List FolderPlace → ℕ → Bool
is_plain_at places f = holds_of is_plain (find_place f places)

-- the folders that may bring a folder into the scope of a search: itself, and for a recursive one those above it
abbrev pub looked_from : List FolderPlace → Bool → ℕ → List ℕ
looked_from places recursive f = if recursive then path places f else f ∷ []

-- the search looks in this folder: it is a plain one, and is given, or stands below one that is given where the search is recursive
abbrev pub in_scope : List FolderPlace → Search → ℕ → Bool
in_scope places s f = is_plain_at places f && list_any (λ g. is_among s.scope g && is_plain_at places g) (looked_from places s.recursive f)

-- the search finds this message
abbrev pub is_found : List FolderPlace → Search → Mes → Bool
is_found places s m = in_scope places s m.folder && eval s.restriction (subject m)

-- the search is to list this message, if there is one
abbrev pub is_listed : List FolderPlace → Search → Option Mes → Bool
is_listed places s message = holds_of (is_found places s) message

-- what a search is to list: ascending, each message of the tree in a folder that it looks in and of which its restriction holds
abbrev pub lists : Tree → Search → List ℕ
lists T s = map (λ e. e.0) (filter (λ e. is_listed T.places s (as_message (Some e.1))) (map.entries T.objects))

-- the ids of rows
abbrev pub row_ids : List (ℕ × List Val) → List ℕ
row_ids rows = map (λ r. r.0) rows

-- the rows are those of the messages that the search is to list
abbrev pub AreFresh : List FolderPlace → (ℕ → Option Mes) → Search → List (ℕ × List Val) → Type 0
AreFresh places message s rows = (m : ℕ) → is_some (find_row m rows) ≡ is_listed places s (message m)

-- the table of the search has the rows that it is to have
abbrev pub IsFresh : Tree → Search → Type 0
IsFresh T s = (t : Tbl) × (object_at T (results s.nid) ≡ Some (Table t)) × (row_ids t.table.rows ≡ lists T s)

-- something is known of each message of the tree
abbrev pub KnowsMessages : Tree → FlagList → Type 0
KnowsMessages T flags = (m : ℕ) → IsSome (as_message (object_at T m)) → IsSome (known_flag m flags)
