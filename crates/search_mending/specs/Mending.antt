-- What mending a search comes to: a stale list is built anew, and a criteria object of the first version becomes one of the second.
use Rattle.std.specs.Prelude.{ℕ, ◌&&◌, Bool, true, false, not, nat_eq, List, map, Option, None, Some, Ok, if◌then◌else◌, ◌||◌}
use Rattle.std.specs.Cmp.Lexicographic.{pointwise}
use Rattle.std.specs.Option.{is_some, option_and_then}
use Rattle.mapi_values.specs.Tables.{find_row}
use Rattle.mapi_values.specs.Values.{Val}
use Rattle.restr_eval.specs.Eval.{holds_of}
use Rattle.search_obj.specs.Changing.{migrated}
use Rattle.search_obj.specs.Crits.{Crit, CritSet}
use Rattle.search_obj.specs.Writing.{written}
use Rattle.search_obj.specs.declared.criteria.Version.{Version}
use Rattle.search_obj.specs.declared.criteria.Version.TheVariants.{First, Second}
use Rattle.command_text.specs.declared.reply.CommandRefusal.TheVariants as refusals
use Rattle.command_text.specs.declared.reply.LastLine.TheVariants.{Done}
use Rattle.mail_objects.specs.Forms.{Ctx, Tbl}
use Rattle.mail_tree.specs.Changing.{Answer, Changed, ◌>>=◌, as_context, as_table, context_at, hierarchy, nothing, refused_if, table_at}
use Rattle.mail_tree.specs.Folders.{Outcome, changing, replied}
use Rattle.mail_tree.specs.Settling.{context_as_is, table_as_is, with_context}
use Rattle.mail_tree.specs.Tree.{Tree, object_at}
use Rattle.mail_searches.specs.Building.{built_rows}
use Rattle.mail_searches.specs.Criteria.{Coming, can_hold}
use Rattle.mail_searches.specs.Relisting.{with_results}
use Rattle.mail_searches.specs.Searches.{Search, criteria_node, criteria_of, find_search, lists, results, row_ids, runs}
use Rattle.mail_searches.specs.Searching.{Searching}
use Rattle.search_store.specs.search_folders.Pieces.{criteria_at}

-- ---- which searches are to be mended

-- the table of the search has the rows that it is to have, whatever cells they have
abbrev pub lists_right : Tree → Search → Bool
lists_right T s = holds_of (λ (t : Tbl). pointwise nat_eq (row_ids t.table.rows) (lists T s)) (as_table (object_at T (results s.nid)))

-- the search runs, and its table has other rows than filtering all messages gives
abbrev pub lists_wrong : Tree → Search → Bool
lists_wrong T s = runs s && not (lists_right T s)

-- so it is with the search of this folder, if it has criteria: the folder is stale
abbrev pub is_stale : Searching → ℕ → Bool
is_stale X f = holds_of (lists_wrong X.tree) (find_search f X.searches)

-- the version of the criteria is the first
abbrev pub is_first : Version → Bool
is_first First = true
is_first Second = false

-- the criteria object of this folder's search is of the first version
abbrev pub is_of_first : Searching → ℕ → Bool
is_of_first X f = holds_of (λ (k : Crit). is_first k.version) (option_and_then (λ (c : Ctx). criteria_of c.props) (as_context (object_at X.tree (criteria_node f))))

-- ---- the list

-- the row that stood there, or else this one
abbrev pub or_stood : ℕ × List Val → Option (ℕ × List Val) → ℕ × List Val
or_stood row None = row
or_stood row (Some stood) = stood

-- these rows, of which each that stood in the table keeps its cells
abbrev pub with_stood : List (ℕ × List Val) → List (ℕ × List Val) → List (ℕ × List Val)
with_stood stood rows = map (λ r. or_stood r (find_row r.0 stood)) rows

-- the table with other rows
abbrev pub with_other_rows : List (ℕ × List Val) → Tbl → Tbl
with_other_rows rows t = record { parent = t.parent; table = record t.table { rows = rows } }

-- the table of a search with the rows that are built for it, of which those that stay keep their cells
unfoldable pub list_anew : Tree → Search → Answer Tbl
list_anew T s = table_at T nothing (results s.nid) >>= λ t. built_rows T s t.table.columns >>= λ rows. Ok (with_other_rows (with_stood t.table.rows rows) t)

-- the same of a search that runs, where its table has other rows than it is to have
unfoldable pub list_if_wrong : Tree → Search → Answer (Option Tbl)
list_if_wrong T s = if runs s then (list_anew T s >>= λ t. Ok (if lists_right T s then None else Some t)) else Ok None

-- the same of a folder's search, if it has criteria
abbrev pub list_of_any : Tree → Option Search → Answer (Option Tbl)
list_of_any T None = Ok None
list_of_any T (Some s) = list_if_wrong T s

-- a search folder whose table becomes this one is counted anew, and the row that shows it is in order
abbrev pub with_list : Tree → ℕ → Option Tbl → Changed → Answer Changed
with_list T f None D = Ok D
with_list T f (Some t) D = with_results T f t.table.rows t D

-- ---- the criteria object

-- an object can hold what was set, if anything was; each object in a file can
abbrev pub can_hold_any : Option CritSet → Bool
can_hold_any None = true
can_hold_any (Some set) = can_hold set

-- an object of the first version says the same in the second, in which criteria that were set count as built once, as they did
unfoldable pub turned : ℕ → Ctx → Crit → Answer Changed
turned f c k = if is_first k.version
    then (refused_if (not (can_hold_any k.set)) refusals.Criteria >>= λ u. Ok (with_context (criteria_node f) c (written (migrated k) c.props) nothing))
    else Ok nothing

-- ---- what is written

-- the table that lists a search folder is put as it is
unfoldable pub listed_as_is : Tree → ℕ → Changed → Answer Changed
listed_as_is T f D = context_at T D f >>= λ c. table_as_is T (hierarchy c.parent) D

-- the nodes of a search are put as they are: its values, its criteria object, its list, and the table that lists it
unfoldable pub search_as_is : Tree → ℕ → Changed → Answer Changed
search_as_is T f D = context_as_is T f D >>= context_as_is T (criteria_node f) >>= table_as_is T (results f) >>= listed_as_is T f

-- the same where the search is mended
abbrev pub touched_if : Bool → Tree → ℕ → Changed → Answer Changed
touched_if b T f D = if b then search_as_is T f D else Ok D

-- ---- both

-- What mending a search comes to: whether its list was stale, whether its object was of the first version, and the rest as of a command.
pub record Mending : Type 0 where
  pub stale : Bool
  pub first : Bool
  pub coming : Coming

-- this is changed, and the searches stay what they are
abbrev pub mending : Searching → Option Tbl → Crit → Outcome → Mending
mending X list k o = record { stale = is_some list; first = is_first k.version; coming = record { outcome = o; own = X.own; searches = X.searches } }

-- The list and the object of this search folder are mended. All nodes of a search that is mended are written, each once, also those that stay as they are; they keep to the limits on what a command writes, or it is refused.
unfoldable pub mending_with : Searching → ℕ → Option Tbl → Ctx × Crit → Answer Mending
mending_with X f list p = turned f p.0 p.1 >>= with_list X.tree f list >>= touched_if (is_some list || is_first p.1.version) X.tree f >>= changing X.tree (replied Done) >>= λ o. Ok (mending X list p.1 o)

-- What mending the search of an own search folder comes to; where it is neither stale nor of the first version, nothing changes.
unfoldable pub mended_search : Searching → ℕ → Answer Mending
mended_search X f = list_of_any X.tree (find_search f X.searches) >>= λ list. criteria_at X.tree f >>= mending_with X f list
