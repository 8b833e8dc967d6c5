-- What becomes of touched messages in the list of a running search.
use Rattle.std.specs.Prelude.{ℕ, ◌+◌, Bool, List, [], ◌∷◌, Option, if◌then◌else◌}
use Rattle.mapi_values.specs.Tables.{drop_row}
use Rattle.mapi_values.specs.Values.{Val}
use Rattle.mapi_values.specs.declared.column.Column.{Column}
use Rattle.mail_objects.specs.Forms.{Tbl}
use Rattle.live_search.specs.Touching.{delta}
use Rattle.live_search.specs.declared.touching.Delta.{Delta}
use Rattle.mail_draft.specs.Outcomes.{places_after}
use Rattle.mail_tree.specs.Tree.{Tree}
use Rattle.mail_tree.specs.declared.places.FolderPlace.{FolderPlace}
use Rattle.mail_searches.specs.Asking.{places_around, work_in}
use Rattle.mail_searches.specs.Relisting.{Around, Touch, by_delta, changes_row, is, is_gone, props_of, was}
use Rattle.mail_searches.specs.Searches.{Search}

-- where folders stood before a command, and where they stand after it, where this says how they moved, if they did
abbrev pub around_move : Tree → Option (List FolderPlace) → Around
around_move T new = places_around T.places (places_after T.places new)

-- what becomes of a touched message in the list of a search
abbrev pub delta_at : Around → Search → Touch → Delta
delta_at d s t = delta (was d s t) (is d s t)

-- a row comes or goes with that, or shows the message anew
abbrev pub changes_at : Around → Search → Touch → Bool
changes_at d s t = changes_row (delta_at d s t) t.anew

-- how many restrictions are reached at most to see what becomes of all these messages
abbrev pub work_by : Around → Search → List Touch → ℕ
work_by d s [] = 0
work_by d s (t ∷ ts) = work_in d s t.old t.new + work_by d s ts

-- the rows of a running search after these messages were touched, by what becomes of each in its list
abbrev pub relisted_by : List Column → List Touch → List Delta → List (ℕ × List Val) → List (ℕ × List Val)
relisted_by columns [] deltas rows = rows
relisted_by columns (t ∷ ts) [] rows = rows
relisted_by columns (t ∷ ts) (x ∷ xs) rows = relisted_by columns ts xs (by_delta x t.anew columns t.nid (props_of t.new) rows)

-- the rows without that of a message, if that is there no more
abbrev pub drop_gone : Touch → List (ℕ × List Val) → List (ℕ × List Val)
drop_gone t rows = if is_gone t then drop_row t.nid rows else rows

-- the rows without those of messages that are there no more
abbrev pub without_gone : List Touch → List (ℕ × List Val) → List (ℕ × List Val)
without_gone [] rows = rows
without_gone (t ∷ ts) rows = without_gone ts (drop_gone t rows)

-- the same node with other rows
abbrev pub with_list : List (ℕ × List Val) → Tbl → Tbl
with_list rows t = record t { table = record t.table { rows = rows } }
