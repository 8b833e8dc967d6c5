-- How the list of a search is built.
use Rattle.std.specs.Prelude.{ℕ, List, [], ◌∷◌, Ok, if◌then◌else◌}
use Rattle.mapi_values.specs.Messages.{Mes}
use Rattle.mapi_values.specs.Tables.{mirror, put_row}
use Rattle.mapi_values.specs.Values.{Val}
use Rattle.mapi_values.specs.declared.column.Column.{Column}
use Rattle.mail_tree.specs.declared.places.FolderPlace.{FolderPlace}
use Rattle.mail_tree.specs.Changing.{Answer, Changed, ◌>>=◌, contents, message_at, nothing, table_at}
use Rattle.mail_tree.specs.Places.{place_id}
use Rattle.mail_tree.specs.Settling.{message_ids}
use Rattle.mail_tree.specs.Tree.{Tree}
use Rattle.restr_eval.specs.Eval.{eval, subject}
use Rattle.mail_searches.specs.Relisting.{with_results}
use Rattle.mail_searches.specs.Searches.{Search, in_scope, results}

-- the rows with one that shows a message, if what the search asks holds of it
abbrev pub with_found : Search → List Column → ℕ → Mes → List (ℕ × List Val) → List (ℕ × List Val)
with_found s columns m M rows = if eval s.restriction (subject M) then put_row m (mirror columns M.props) rows else rows

-- the rows with those of the messages among these that the search finds
abbrev pub found_among : Tree → Search → List Column → List ℕ → List (ℕ × List Val) → Answer (List (ℕ × List Val))
found_among T s columns [] rows = Ok rows
found_among T s columns (m ∷ ms) rows = message_at T nothing m >>= λ M. found_among T s columns ms (with_found s columns m M rows)

-- the rows with those of the messages that the search finds in these folders
abbrev pub found_below : Tree → Search → List Column → List FolderPlace → List (ℕ × List Val) → Answer (List (ℕ × List Val))
found_below T s columns [] rows = Ok rows
found_below T s columns (p ∷ ps) rows = if in_scope T.places s (place_id p)
    then (table_at T nothing (contents (place_id p)) >>= λ t. found_among T s columns (message_ids t.table) rows >>= found_below T s columns ps)
    else found_below T s columns ps rows

-- the rows that show what the search is to list
abbrev pub built_rows : Tree → Search → List Column → Answer (List (ℕ × List Val))
built_rows T s columns = found_below T s columns T.places []

-- the list of the search is built anew, and it is counted
unfoldable pub built : Tree → Search → Changed → Answer Changed
built T s D = table_at T D (results s.nid) >>= λ t. built_rows T s t.table.columns >>= λ rows. with_results T s.nid rows t D
