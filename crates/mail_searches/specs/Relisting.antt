-- What the messages that a command touches change in the tables of searches.
use Rattle.std.specs.Prelude.{ℕ, ◌&&◌, Bool, true, false, not, List, [], ◌∷◌, filter, length, Option, None, Some, Ok, Err, if◌then◌else◌, ◌||◌}
use Rattle.std.specs.List.{list_any}
use Rattle.std.specs.Option.{is_none, is_some}
use Rattle.std.specs.FinMap as map
use Rattle.mapi_values.specs.Messages.{Mes}
use Rattle.mapi_values.specs.Tables.{drop_row, find_row, mirror, put_row}
use Rattle.mapi_values.specs.Values.{Val}
use Rattle.mapi_values.specs.declared.column.Column.{Column}
use Rattle.live_search.specs.Touching.{delta}
use Rattle.live_search.specs.declared.touching.Delta.{Delta}
use Rattle.live_search.specs.declared.touching.Delta.TheVariants.{Same, Enter, Leave, Stay}
use Rattle.mail_tree.specs.mail_objects.Forms.{Tbl}
use Rattle.mail_tree.specs.declared.places.FolderPlace.{FolderPlace}
use Rattle.mail_tree.specs.Changing.{Answer, Changed, ◌>>=◌, as_message, context_at, known, now_at, table_at, with_object, with_rows}
use Rattle.mail_tree.specs.Settling.{mirrored, with_context}
use Rattle.mail_tree.specs.Folders.{Outcome}
use Rattle.mail_tree.specs.Messages.{message_in}
use Rattle.mail_tree.specs.Tree.{Tree, object_at}
use Rattle.mail_tree.specs.Values.{is_read, with_counts}
use Rattle.mail_searches.specs.Searches.{Search, is_listed, results, runs}

-- A message that a command touches: its id, what it was and what it is, if it was there and is there, and whether the command put it anew.
pub record Touch : Type 0 where
  pub nid : ℕ
  pub old : Option Mes
  pub new : Option Mes
  pub anew : Bool

-- Where the folders of a store stood before a command, and where they stand after it.
pub record Around : Type 0 where
  pub before : List FolderPlace
  pub after : List FolderPlace

-- where they stand around a command that comes to this
abbrev pub around : Tree → Outcome → Around
around T o = record { before = T.places; after = o.places }

-- the search listed the message
abbrev pub was : Around → Search → Touch → Bool
was d s t = is_listed d.before s t.old

-- the search is to list the message
abbrev pub is : Around → Search → Touch → Bool
is d s t = is_listed d.after s t.new

-- the message is there no more
abbrev pub is_gone : Touch → Bool
is_gone t = is_none t.new

-- the values of a message, none of one that isn't there
abbrev pub props_of : Option Mes → List Val
props_of None = []
props_of (Some m) = m.props

-- a row comes, goes or stays; one that stays shows the message anew where that was put
abbrev pub by_delta : Delta → Bool → List Column → ℕ → List Val → List (ℕ × List Val) → List (ℕ × List Val)
by_delta Same anew columns m props rows = rows
by_delta Enter anew columns m props rows = put_row m (mirror columns props) rows
by_delta Leave anew columns m props rows = drop_row m rows
by_delta Stay anew columns m props rows = if anew then put_row m (mirror columns props) rows else rows

-- the rows of a search after a message was touched: those of a running one follow it, and from any other the row of a message that is gone goes
abbrev pub relisted_row : Around → Search → List Column → Touch → List (ℕ × List Val) → List (ℕ × List Val)
relisted_row d s columns t rows = if runs s then by_delta (delta (was d s t) (is d s t)) t.anew columns t.nid (props_of t.new) rows
    else (if is_gone t then drop_row t.nid rows else rows)

-- the same after these messages were touched
abbrev pub relisted : Around → Search → List Column → List Touch → List (ℕ × List Val) → List (ℕ × List Val)
relisted d s columns [] rows = rows
relisted d s columns (t ∷ ts) rows = relisted d s columns ts (relisted_row d s columns t rows)

-- a row comes, goes or shows its message anew
abbrev pub changes_row : Delta → Bool → Bool
changes_row Same anew = false
changes_row Enter anew = true
changes_row Leave anew = true
changes_row Stay anew = anew

-- one of these messages may change a row of the search
abbrev pub concerns : Around → Search → List Touch → Bool
concerns d s ts = if runs s then list_any (λ t. changes_row (delta (was d s t) (is d s t)) t.anew) ts else list_any is_gone ts

-- one of these messages is gone, and has one of these rows
abbrev pub takes_row : List (ℕ × List Val) → List Touch → Bool
takes_row rows ts = list_any (λ t. is_gone t && is_some (find_row t.nid rows)) ts

-- the message before those, if there is one
abbrev pub before_those : Option Mes → List Mes → List Mes
before_those None ms = ms
before_those (Some m) ms = m ∷ ms

-- the messages that rows name
abbrev pub named : Tree → Changed → List (ℕ × List Val) → List Mes
named T D [] = []
named T D (r ∷ rs) = before_those (as_message (now_at T D r.0)) (named T D rs)

-- the messages that weren't read
abbrev pub unread : List Mes → List Mes
unread ms = filter (λ m. not (is_read m.props)) ms

-- what is told of a message by the folder that is its node's parent agrees with what stands at its id
abbrev pub agrees : Answer Mes → Option Mes → Bool
agrees (Ok M) message = true
agrees (Err (Some refusal)) message = is_none message
agrees (Err None) message = false

-- by the nodes it can't be told whether a message of the tree stands at the id
abbrev pub is_untold : Tree → ℕ → Bool
is_untold T q = not (agrees (message_in T q) (as_message (object_at T q)))

-- nor by changes: nothing was put there or removed
abbrev pub is_unclear : Tree → Changed → ℕ → Bool
is_unclear T D q = is_none (map.get D.objects q) && is_untold T q

-- of each of these rows it can be told whether it names a message, or something isn't of its form
abbrev pub unless_unclear : Tree → Changed → List (ℕ × List Val) → Answer (Unit {0})
unless_unclear T D rows = known (if list_any (λ r. is_unclear T D r.0) rows then None else Some tt)

-- a search with these rows is counted anew: the messages that they name, and those of them that weren't read; no folder stands in it
unfoldable pub counted_search : Tree → ℕ → List (ℕ × List Val) → Changed → Answer Changed
counted_search T s rows D = context_at T D s >>= λ c. unless_unclear T D rows >>= λ u. let ms = named T D rows in
    Ok (with_context s c (with_counts (length ms) (length (unread ms)) false c.props) D)

-- a search whose table gets these rows is counted anew, and the row that shows it is in order
unfoldable pub with_results : Tree → ℕ → List (ℕ × List Val) → Tbl → Changed → Answer Changed
with_results T s rows t D = counted_search T s rows (with_object (results s) (Some (with_rows rows t)) D) >>= mirrored T s

-- a search after these messages were touched: its table, its counts, and the row that shows it; all stay where no row changes
unfoldable pub settled_search : Tree → Around → List Touch → Search → Changed → Answer Changed
settled_search T d ts s D = if concerns d s ts then
    (table_at T D (results s.nid) >>= λ t. if runs s || takes_row t.table.rows ts then with_results T s.nid (relisted d s t.table.columns ts t.table.rows) t D else Ok D)
    else Ok D

-- each search in its turn
abbrev pub settled_searches : Tree → Around → List Touch → List Search → Changed → Answer Changed
settled_searches T d ts [] D = Ok D
settled_searches T d ts (s ∷ ss) D = settled_search T d ts s D >>= settled_searches T d ts ss

-- what a command comes to, with what the messages that it touches change in these searches
abbrev pub with_searches : Tree → List Search → List Touch → Outcome → Answer Outcome
with_searches T ss ts o = settled_searches T (around T o) ts ss o.changed >>= λ D. Ok (record o { changed = D })
