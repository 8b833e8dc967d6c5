-- Which running search's list isn't what it is to be, message by message.
use Rattle.std.specs.Prelude.{ℕ, ◌++◌, Bool, not, List, [], ◌∷◌, map, Option, None, Some, Ok, if◌then◌else◌}
use Rattle.std.specs.List.{list_all}
use Rattle.std.specs.Option.{is_some}
use Rattle.pst_base.specs.declared.ids.Nid.{Nid}
use Rattle.mapi_values.specs.Messages.{Mes}
use Rattle.mail_tree.specs.declared.places.FolderPlace.{FolderPlace}
use Rattle.mail_tree.specs.Changing.{Answer, ◌>>=◌, contents, message_at, nothing, table_at}
use Rattle.mail_tree.specs.Flags.{FlagList, known_flag}
use Rattle.mail_tree.specs.Places.{is_plain, place_id}
use Rattle.mail_tree.specs.Settling.{message_ids}
use Rattle.mail_tree.specs.Tree.{Tree}
use Rattle.search_obj.specs.Scope.{is_among}
use Rattle.mail_searches.specs.Searches.{Search, is_found, results, row_ids, runs, search_id}
use Rattle.list_check.specs.declared.watching.Watched.{Watched}

-- a running search, and the ids of the rows of its list
abbrev pub Watch : Type 0
Watch = Search × List ℕ

abbrev pub watch_of : Watched → Watch
watch_of w = ((w.search).now, w.rows)

abbrev pub watches_of : List Watched → List Watch
watches_of ws = map watch_of ws

abbrev pub bits_of : Option Nid → Option ℕ
bits_of None = None
bits_of (Some n) = Some n.bits

-- the ids of the rows of a search's list
unfoldable pub rows_at : Tree → ℕ → Answer (List ℕ)
rows_at T f = table_at T nothing (results f) >>= λ t. Ok (row_ids t.table.rows)

-- these and a search, if it runs
unfoldable pub with_search : Tree → List Watch → Search → Answer (List Watch)
with_search T ws s = if runs s then (rows_at T s.nid >>= λ rows. Ok (ws ++ ((s, rows) ∷ []))) else Ok ws

-- these and those of the searches that run
abbrev pub watched : Tree → List Watch → List Search → Answer (List Watch)
watched T ws [] = Ok ws
watched T ws (s ∷ ss) = with_search T ws s >>= λ more. watched T more ss

-- something is known of the message at each of these ids
abbrev pub are_known : FlagList → List ℕ → Bool
are_known flags ids = list_all (λ m. is_some (known_flag m flags)) ids

-- the first search whose list has a row that names no message
abbrev pub stray_of : FlagList → List Watch → Option ℕ
stray_of flags [] = None
stray_of flags (w ∷ ws) = if are_known flags w.1 then stray_of flags ws else Some (search_id w.0)

-- the search lists the message and isn't to, or is to list it and doesn't
abbrev pub differs : List FolderPlace → Watch → ℕ → Mes → Bool
differs places w m M = if is_among w.1 m then not (is_found places w.0 M) else is_found places w.0 M

-- the first search that does
abbrev pub stale_of : List FolderPlace → List Watch → ℕ → Mes → Option ℕ
stale_of places [] m M = None
stale_of places (w ∷ ws) m M = if differs places w m M then Some (search_id w.0) else stale_of places ws m M

-- this search, or else what the rest tells
abbrev pub or_else : Option ℕ → Answer (Option ℕ) → Answer (Option ℕ)
or_else None rest = rest
or_else (Some f) rest = Ok (Some f)

-- the first search that does so of the message with this id
unfoldable pub stale_at : Tree → List Watch → ℕ → Answer (Option ℕ)
stale_at T ws m = message_at T nothing m >>= λ M. Ok (stale_of T.places ws m M)

-- of one of these messages
abbrev pub stale_among : Tree → List Watch → List ℕ → Answer (Option ℕ)
stale_among T ws [] = Ok None
stale_among T ws (m ∷ ms) = stale_at T ws m >>= λ stale. or_else stale (stale_among T ws ms)

-- of a message that the folder's table lists
unfoldable pub stale_listed : Tree → List Watch → ℕ → Answer (Option ℕ)
stale_listed T ws f = table_at T nothing (contents f) >>= λ t. stale_among T ws (message_ids t.table)

-- of a message in the folder, if it is a plain one
unfoldable pub stale_in : Tree → List Watch → FolderPlace → Answer (Option ℕ)
stale_in T ws p = if is_plain p then stale_listed T ws (place_id p) else Ok None

-- of a message in one of these folders
abbrev pub stale_below : Tree → List Watch → List FolderPlace → Answer (Option ℕ)
stale_below T ws [] = Ok None
stale_below T ws (p ∷ ps) = stale_in T ws p >>= λ stale. or_else stale (stale_below T ws ps)
