-- What a view shows of a tree.
use Rattle.std.specs.Prelude.{ℕ, List, [], ◌∷◌, ◌++◌, Result, Ok, if◌then◌else◌}
use Rattle.std.specs.Option.{is_some}
use Rattle.mapi_values.specs.Values.{Val}
use Rattle.mail_objects.specs.Forms.{Tbl}
use Rattle.mail_tree.specs.Changing.{Answer, ◌>>=◌, as_message, contents, nothing, table_at}
use Rattle.mail_tree.specs.Tree.{Tree, object_at}
use Rattle.search_folders.specs.mail_draft.Answers.{Says}
use Rattle.search_folders.specs.mail_draft.declared.stop.Stop.{Stop}
use Rattle.search_folders.specs.mail_folders.Pieces.{plain_in}
use Rattle.search_folders.specs.search_results.Counting.{message_told}
use Rattle.mail_searches.specs.Relisting.{unless_unclear}
use Rattle.mail_searches.specs.Searches.{results}
use Rattle.mail_searches.specs.Searching.{Searching, is_own}
use Rattle.mail_reading.specs.declared.viewing.Listing.{Listing}

-- the contents of a plain folder
abbrev pub plain_contents : Tree → ℕ → Answer Tbl
plain_contents T f = plain_in T f >>= λ p. table_at T nothing (contents f)

-- the table that lists the messages of a folder: the list of an own search, the contents of a plain folder
unfoldable pub contents_in : Searching → ℕ → Answer Tbl
contents_in X f = if is_own X.own f then table_at X.tree nothing (results f) else plain_contents X.tree f

-- the ids so far, with this one, if it is that of a message
unfoldable pub with_named : Tree → List ℕ → ℕ → Answer (List ℕ)
with_named T ids id = message_told T id >>= λ there. Ok (if there then ids ++ id ∷ [] else ids)

-- the ids of the rows that name messages
abbrev pub named_ids : Tree → List (ℕ × List Val) → List ℕ
named_ids T [] = []
named_ids T (r ∷ rs) = if is_some (as_message (object_at T r.0)) then r.0 ∷ named_ids T rs else named_ids T rs

-- the same, where of each row it can be told
unfoldable pub listed_ids : Tree → List (ℕ × List Val) → Answer (List ℕ)
listed_ids T rows = unless_unclear T nothing rows >>= λ u. Ok (named_ids T rows)

-- a folder's table, and which messages its rows name
unfoldable pub listing_of : Searching → ℕ → Answer (Tbl × List ℕ)
listing_of X f = contents_in X f >>= λ t. listed_ids X.tree t.table.rows >>= λ ids. Ok (t, ids)

-- the same as it is read
abbrev pub listing_view : Listing → Tbl × List ℕ
listing_view l = (l.table, l.ids.items)

-- of each tree with searches that there is, the listing is what a view of the folder shows
abbrev pub ListsRows : (Searching → Type 0) → ℕ → Result Listing Stop → Type 0
ListsRows has folder result = (X : Searching) → has X → Says listing_view (listing_of X folder) result
