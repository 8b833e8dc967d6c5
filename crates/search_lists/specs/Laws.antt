-- What the tables of searches show after a command.
use Rattle.std.specs.Prelude.{◌≡◌, ℕ, ◌%◌, ◌&&◌, ◌==◌, Bool, true, false, not, IfOk, IsSome, List, [], ◌∷◌, filter, length, Option, None, Some, if◌then◌else◌, ◌||◌}
use Rattle.std.specs.List.{list_any}
use Rattle.std.specs.Option.{is_some}
use Rattle.mapi_values.specs.Keyed.{keys_ascend}
use Rattle.mapi_values.specs.Messages.{Mes}
use Rattle.mapi_values.specs.Properties.{find}
use Rattle.mapi_values.specs.Values.{Val}
use Rattle.mapi_values.specs.declared.column.Column.{Column}
use Rattle.mapi_values.specs.Tables.{find_row, mirror}
use Rattle.command_text.specs.declared.command.Command.{Command}
use Rattle.mail_objects.specs.Forms.{Ctx, Tbl}
use Rattle.mail_objects.specs.declared.object.Object.TheVariants.{Context, Table}
use Rattle.mail_tree.specs.Changing.{Changed, as_message, hierarchy, nothing, now_at, with_rows}
use Rattle.mail_tree.specs.Folders.{Outcome}
use Rattle.mail_tree.specs.Places.{is_within}
use Rattle.mail_tree.specs.declared.places.FolderPlace.{FolderPlace}
use Rattle.search_obj.specs.Scope.{is_among}
use Rattle.mail_tree.specs.Step.{after, outcome}
use Rattle.mail_tree.specs.Tree.{Tree, object_at}
use Rattle.mail_tree.specs.Values.{number, truth}
use Rattle.mail_tree.specs.Whole.{Fine, IsWhole}
use Rattle.mail_laws.specs.Laws.{message_with}
use Rattle.mail_searches.specs.Searches.{AreFresh, Search, in_scope, is_listed, is_plain_at, lists, results, row_ids, runs}
use Rattle.mail_searches.specs.Searching.{AllFresh, AreSearches, Each, Searching}
use Rattle.mail_searches.specs.Relisting.{Around, Touch, around, concerns, is, is_gone, named, props_of, relisted, relisted_row, settled_search, settled_searches, takes_row, unread, was, with_searches}
use Rattle.mail_searches.specs.Touching.{followed, touched}

-- the message is one of those that are touched
abbrev pub is_touched : List Touch → ℕ → Bool
is_touched ts m = list_any (λ t. t.nid == m) ts

-- The touched messages tell what stood and what stands at their ids, the same where they weren't put anew. Each other message is as it was, and is to be listed in each search just where it was.
pub record AreTouched (T : Tree) (o : Outcome) (ts : List Touch) : Type 0 where
  pub old : Each (λ t. t.old ≡ message_with T t.nid) ts
  pub new : Each (λ t. t.new ≡ message_with (after T o) t.nid) ts
  pub same : Each (λ t. t.anew ≡ false → t.new ≡ t.old) ts
  pub stay : (m : ℕ) → is_touched ts m ≡ false → message_with (after T o) m ≡ message_with T m
  pub others : (s : Search) (m : ℕ) → is_touched ts m ≡ false → is_listed T.places s (message_with T m) ≡ is_listed o.places s (message_with (after T o) m)

-- the messages that a command touches are all that matter to searches
abbrev pub TouchesAll : Type 0
TouchesAll = (T : Tree) (c : Command) → IsWhole T → IfOk (outcome T c) (λ o. Fine (touched T c o) (AreTouched T o))

-- rows in the order of the messages that a running search is to list are so after a command, if the touched messages are all that matter
abbrev pub Relists : Type 0
Relists = (T : Tree) (o : Outcome) (ts : List Touch) (s : Search) (columns : List Column) (rows : List (ℕ × List Val)) → AreTouched T o ts → runs s ≡ true
    → row_ids rows ≡ lists T s → row_ids (relisted (around T o) s columns ts rows) ≡ lists (after T o) s

-- so after each command a running search lists what filtering all messages gives
abbrev pub ListsAfter : Type 0
ListsAfter = (T : Tree) (c : Command) (s : Search) (columns : List Column) (rows : List (ℕ × List Val)) → IsWhole T → runs s ≡ true → row_ids rows ≡ lists T s
    → IfOk (outcome T c) (λ o. Fine (touched T c o) (λ ts. row_ids (relisted (around T o) s columns ts rows) ≡ lists (after T o) s))

-- a search looks in the plain folders that it is given, and in those within them where it is recursive
pub record ScopesAreWithin : Type 0 where
  pub shallow : (places : List FolderPlace) (s : Search) (f : ℕ) → s.recursive ≡ false → in_scope places s f ≡ (is_plain_at places f && is_among s.scope f)
  pub deep : (places : List FolderPlace) (s : Search) (f : ℕ) → s.recursive ≡ true → in_scope places s f ≡ (is_plain_at places f && list_any (λ g. is_plain_at places g && is_within places g f) s.scope)

-- the list of a search ascends and has just the messages that the search is to list; rows that ascend are those of these messages exactly where they are in the order of the list
pub record ListsAll : Type 0 where
  pub ascend : (T : Tree) (s : Search) → keys_ascend (λ m. m) 0 (lists T s) ≡ true
  pub members : (T : Tree) (s : Search) (m : ℕ) → is_among (lists T s) m ≡ is_listed T.places s (message_with T m)
  pub rows : (T : Tree) (s : Search) (rows : List (ℕ × List Val)) → keys_ascend (λ r. r.0) 0 rows ≡ true → AreFresh T.places (message_with T) s rows → row_ids rows ≡ lists T s
  pub fresh : (T : Tree) (s : Search) (rows : List (ℕ × List Val)) → row_ids rows ≡ lists T s → (keys_ascend (λ r. r.0) 0 rows ≡ true) × AreFresh T.places (message_with T) s rows

-- the row of a message in a running search after the message was touched: none where it isn't to be listed, one that shows it where it comes or was put anew, and else the row that it had
abbrev pub row_after : Around → Search → List Column → Touch → List (ℕ × List Val) → Option (ℕ × List Val)
row_after d s columns t rows = if is d s t then (if not (was d s t) || t.anew then Some (t.nid, mirror columns (props_of t.new)) else find_row t.nid rows) else None

-- a touched message has that row, and each other row stays as it is
pub record ShowsTouched : Type 0 where
  pub here : (d : Around) (s : Search) (columns : List Column) (t : Touch) (rows : List (ℕ × List Val)) → runs s ≡ true → keys_ascend (λ r. r.0) 0 rows ≡ true → is_some (find_row t.nid rows) ≡ was d s t
      → find_row t.nid (relisted_row d s columns t rows) ≡ row_after d s columns t rows
  pub others : (d : Around) (s : Search) (columns : List Column) (t : Touch) (rows : List (ℕ × List Val)) (m : ℕ) → (m ≡ t.nid → ⊥)
      → find_row m (relisted_row d s columns t rows) ≡ find_row m rows

-- a search that isn't running loses the rows of messages that are gone, and keeps each other row as it is
abbrev pub HaltedStays : Type 0
HaltedStays = (d : Around) (s : Search) (columns : List Column) (ts : List Touch) (rows : List (ℕ × List Val)) (m : ℕ) → runs s ≡ false → keys_ascend (λ r. r.0) 0 rows ≡ true
    → find_row m (relisted d s columns ts rows) ≡ (if is_touched (filter is_gone ts) m then None else find_row m rows)

-- the id is that of a search
abbrev pub IsSearch : Search → Type 0
IsSearch s = s.nid % 32 ≡ 3

-- no two searches have one id, and each id is that of a search
abbrev pub AreApart : List Search → Type 0
AreApart [] = Unit {0}
AreApart (s ∷ ss) = IsSearch s × Each (λ t. t.nid ≡ s.nid → ⊥) ss × AreApart ss

-- After searches were settled messages are as they were, each of their tables has the rows that the touched messages leave it, and each other table of a search is as it was.
pub record Settles (T : Tree) (d : Around) (ts : List Touch) (ss : List Search) (D D' : Changed) : Type 0 where
  pub messages : (m : ℕ) → as_message (now_at T D' m) ≡ as_message (now_at T D m)
  pub others : (q : ℕ) → q % 32 ≡ 16 → Each (λ s. q ≡ results s.nid → ⊥) ss → now_at T D' q ≡ now_at T D q
  pub tables : Each (λ s. (t : Tbl) → now_at T D (results s.nid) ≡ Some (Table t) → now_at T D' (results s.nid) ≡ Some (with_rows (relisted d s t.table.columns ts t.table.rows) t)) ss

-- that is so of all searches together
abbrev pub SettlesAll : Type 0
SettlesAll = (T : Tree) (d : Around) (ts : List Touch) (ss : List Search) (D : Changed) → AreApart ss → IfOk (settled_searches T d ts ss D) (Settles T d ts ss D)

-- The values of a search tell how many messages these are, how many of them weren't read, and that no folder stands in it.
pub record TellsCounts (ms : List Mes) (props : List Val) : Type 0 where
  pub messages : find 0x3602 props ≡ Some (number 0x3602 (length ms))
  pub unread : find 0x3603 props ≡ Some (number 0x3603 (length (unread ms)))
  pub folders : find 0x360A props ≡ Some (truth 0x360A false)

-- after these changes the values of this search tell the counts of the messages that its rows name
abbrev pub TellsList : Tree → Changed → ℕ → Type 0
TellsList T D s = (c : Ctx) (t : Tbl) → now_at T D s ≡ Some (Context c) → now_at T D (results s) ≡ Some (Table t) → TellsCounts (named T D t.table.rows) c.props

-- one of the touched messages changes a row of the search
abbrev pub changes_rows : Around → Search → List Touch → List (ℕ × List Val) → Bool
changes_rows d s ts rows = concerns d s ts && (runs s || takes_row rows ts)

-- a search of which a row changed tells the counts of the messages that its rows name
abbrev pub CountsAnew : Type 0
CountsAnew = (T : Tree) (d : Around) (ts : List Touch) (s : Search) (D : Changed) (t : Tbl) → IsSearch s → now_at T D (results s.nid) ≡ Some (Table t) → changes_rows d s ts t.table.rows ≡ true
    → IfOk (settled_search T d ts s D) (λ D'. TellsList T D' s.nid)

-- the nodes of a search are there: its table, its values, and its parent's table of folders
abbrev pub HasNodes : Tree → Changed → Search → Type 0
HasNodes T D s = ((t : Tbl) × (now_at T D (results s.nid) ≡ Some (Table t))) × ((c : Ctx) × (now_at T D s.nid ≡ Some (Context c)) × ((u : Tbl) × (now_at T D (hierarchy c.parent) ≡ Some (Table u))))

-- searches whose nodes are there are settled, if the tree is whole, whatever their rows name, and their nodes are there still
abbrev pub SettlesThere : Type 0
SettlesThere = (T : Tree) (d : Around) (ts : List Touch) (ss : List Search) (D : Changed) → IsWhole T → AreApart ss → Each (HasNodes T D) ss
    → Fine (settled_searches T d ts ss D) (λ D'. Each (HasNodes T D') ss)

-- the command left the tables of searches as they were
abbrev pub LeavesResults : Tree → Outcome → Type 0
LeavesResults T o = (q : ℕ) → q % 32 ≡ 16 → now_at T o.changed q ≡ object_at T q

-- no command by itself changes a table of a search
abbrev pub LeavesAll : Type 0
LeavesAll = (T : Tree) (c : Command) → IsWhole T → IfOk (outcome T c) (LeavesResults T)

-- where the touched messages are all that matter, and running searches list what they are to list, they do so after all were settled
abbrev pub StaysFresh : Type 0
StaysFresh = (T : Tree) (o : Outcome) (ts : List Touch) (ss : List Search) → AreTouched T o ts → LeavesResults T o → AreApart ss → AllFresh T ss
    → IfOk (with_searches T ss ts o) (λ o'. AllFresh (after T o') ss)

-- so do they after each command
abbrev pub FreshAfter : Type 0
FreshAfter = (T : Tree) (c : Command) (ss : List Search) → IsWhole T → AreApart ss → AllFresh T ss → IfOk (outcome T c) (λ o. IfOk (followed T ss c o) (λ o'. AllFresh (after T o') ss))

-- the row of this message, if there is one, mirrors it
abbrev pub MirrorsMessage : List Column → List (ℕ × List Val) → ℕ → Option Mes → Type 0
MirrorsMessage columns rows m message = (M : Mes) → message ≡ Some M → IsSome (find_row m rows) → find_row m rows ≡ Some (m, mirror columns M.props)

-- after these changes each row of this search that names a message mirrors it
abbrev pub MirrorsList : Tree → Changed → ℕ → Type 0
MirrorsList T D s = (t : Tbl) → now_at T D (results s) ≡ Some (Table t) → (m : ℕ) → MirrorsMessage t.table.columns t.table.rows m (as_message (now_at T D m))

-- A search shows its list rightly: so do its rows, and its values tell their counts.
pub record ShowsList (T : Tree) (D : Changed) (s : ℕ) : Type 0 where
  pub mirrors : MirrorsList T D s
  pub counts : TellsList T D s

-- each running search shows its list rightly
abbrev pub AllShow : Tree → List Search → Type 0
AllShow T ss = Each (λ s. runs s ≡ true → ShowsList T nothing s.nid) ss

-- where each running search shows its list rightly, so does each after each command
abbrev pub ShowsAfter : Type 0
ShowsAfter = (T : Tree) (c : Command) (ss : List Search) → IsWhole T → AreApart ss → AllFresh T ss → AllShow T ss → IfOk (outcome T c) (λ o. IfOk (followed T ss c o) (λ o'. AllShow (after T o') ss))

-- the same searches, where the tree is now that one
abbrev pub with_tree : Searching → Tree → Searching
with_tree X T = record { tree = T; own = X.own; searches = X.searches }

-- a command that knows no searches leaves them those of the tree, and running ones with the lists that they are to have
abbrev pub PlainCommandsStay : Type 0
PlainCommandsStay = (X : Searching) (c : Command) → IsWhole X.tree → AreSearches X → AllFresh X.tree X.searches
    → IfOk (outcome X.tree c) (λ o. IfOk (followed X.tree X.searches c o) (λ o'. AreSearches (with_tree X (after X.tree o')) × AllFresh (after X.tree o') X.searches))
