-- Where folders stand: a list of all of them, ascending by id.
use Rattle.std.specs.Prelude.{ℕ, zero, suc, ◌+◌, ◌-◌, ◌==◌, ◌&&◌, Bool, true, false, not, nat_lt, List, [], ◌∷◌, filter, length, map, Option, None, Some, if◌then◌else◌}
use Rattle.std.specs.List.{list_any}
use Rattle.std.specs.Option.{option_map}
use Rattle.mapi_values.specs.Keyed.{find_key}
use Rattle.mail_tree.specs.declared.places.FolderPlace.{FolderPlace}
use Rattle.mail_tree.specs.declared.places.Sort.{Sort}
use Rattle.mail_tree.specs.declared.places.Sort.TheVariants.{Plain, Foreign}

-- the root of all folders, which is its own parent
abbrev pub ROOT : ℕ
ROOT = 0x122

abbrev pub place_id : FolderPlace → ℕ
place_id p = p.nid.bits

-- the folder with this id
abbrev pub find_place : ℕ → List FolderPlace → Option FolderPlace
find_place f places = find_key place_id f places

abbrev pub is_plain_sort : Sort → Bool
is_plain_sort Plain = true
is_plain_sort Foreign = false

-- the folder holds folders and messages
abbrev pub is_plain : FolderPlace → Bool
is_plain p = is_plain_sort p.sort

-- the folder stands directly in that one; the root stands in none
abbrev pub is_child : ℕ → FolderPlace → Bool
is_child parent p = (p.parent.bits == parent) && not (p.nid.bits == ROOT)

-- the ids of the folders directly in that one, ascending
abbrev pub children : ℕ → List FolderPlace → List ℕ
children parent places = map place_id (filter (is_child parent) places)

-- the parent that a folder's place tells
abbrev pub parent_in : List FolderPlace → ℕ → Option ℕ
parent_in places f = option_map (λ p. p.parent.bits) (find_place f places)

-- what goes on from there, if there is anything
abbrev pub onward : (ℕ → List ℕ) → Option ℕ → List ℕ
onward next None = []
onward next (Some f) = next f

-- the folder and those above it up to the root, n above it at most
unfoldable pub path_from : ℕ → List FolderPlace → ℕ → List ℕ
path_from zero places f = f ∷ []
path_from (suc n) places f = f ∷ (if f == ROOT then [] else onward (path_from n places) (parent_in places f))

-- the folder and those above it up to the root: as many as its depth and 1
abbrev pub path : List FolderPlace → ℕ → List ℕ
path places f = path_from 64 places f

-- the folder is that one, or stands somewhere below it
abbrev pub is_within : List FolderPlace → ℕ → ℕ → Bool
is_within places f g = list_any (λ h. h == f) (path places g)

-- a folder directly in that one would stand below more than 64 others
abbrev pub is_deep : List FolderPlace → ℕ → Bool
is_deep places parent = nat_lt 64 (length (path places parent))

-- some folder within f would stand below more than 64 others, if f stood directly in that parent
abbrev pub moves_deep : List FolderPlace → ℕ → ℕ → Bool
moves_deep places f parent = list_any (λ g. is_within places f (place_id g)
    && nat_lt 64 (length (path places parent) + (length (path places (place_id g)) - length (path places f)))) places
