-- Where a large input is to stand in a store.
use Rattle.std.specs.Prelude.{ℕ, ◌==◌, List, length, Option, None, Some, Ok, if◌then◌else◌}
use Rattle.std.specs.Option.{option_and_then}
use Rattle.pst_base.specs.Fields.{number_at}
use Rattle.mapi_values.specs.Values.{Val}
use Rattle.mail_tree.specs.declared.places.FolderPlace.{FolderPlace}
use Rattle.mail_tree.specs.Changing.{Answer, ◌>>=◌, context_at, nothing}
use Rattle.mail_tree.specs.Places.{ROOT, find_place, is_plain, place_id}
use Rattle.mail_tree.specs.Tree.{Tree}
use Rattle.mail_tree.specs.Values.{bytes_of}

-- an entry id of 24 bytes names the node in its last 4 bytes
abbrev pub named_by : List ℕ → Option ℕ
named_by entry = if length entry == 24 then Some (number_at 4 20 entry) else None

-- the node that the entry id under this id names, if the store has one there
abbrev pub named_node : ℕ → List Val → Option ℕ
named_node id store = option_and_then named_by (bytes_of id 0x0102 store)

-- the folder, if it is there and plain, and else the root
abbrev pub plain_or_root : Option FolderPlace → ℕ
plain_or_root None = ROOT
plain_or_root (Some p) = if is_plain p then place_id p else ROOT

-- the plain folder that the store names under this id; the root stands in for one that is missing
abbrev pub named_folder : List FolderPlace → ℕ → List Val → ℕ
named_folder places id store = plain_or_root (option_and_then (λ n. find_place n places) (named_node id store))

-- the top of the user's folders, in which the input's folder is made, and the place for search folders, in which its search is made
unfoldable pub fill_places : Tree → Answer (ℕ × ℕ)
fill_places T = context_at T nothing 0x21 >>= λ c. Ok (named_folder T.places 0x35E0 c.props, named_folder T.places 0x35E7 c.props)
