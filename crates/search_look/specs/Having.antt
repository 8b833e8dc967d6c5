-- The searches that nodes have beside their tree.
use Rattle.std.specs.Prelude.{◌≡◌, ℕ, ◌%◌, true, IsSome, List, Some}
use Rattle.mapi_values.specs.Keyed.{keys_ascend}
use Rattle.node_port.specs.Nodes.{Nodes, node_at}
use Rattle.mail_objects.specs.Forms.{Ctx, Tbl}
use Rattle.mail_tree.specs.declared.places.FolderPlace.{FolderPlace}
use Rattle.mail_tree.specs.Places.{find_place, is_plain}
use Rattle.mail_tree.specs.Standing.{HasContext, HasTable, ListsMessage}
use Rattle.mail_searches.specs.Searches.{Search, ShowsCriteria, criteria_node, find_search, results, search_id}
use Rattle.mail_searches.specs.Searching.{is_own}
use Rattle.search_lists.specs.Order.{AreOwn}

-- a search folder stands at one of these places
abbrev pub IsSearchIn : List FolderPlace → ℕ → Type 0
IsSearchIn places f = IsSome (find_place f places) × (f % 32 ≡ 3)

-- the folder's nodes are those of a search of the store's own
abbrev pub IsOwnIn : Nodes → ℕ → Type 0
IsOwnIn N f = AreOwn (node_at N (results f)) (node_at N (criteria_node f))

-- a plain folder of these places lists the message
abbrev pub IsMessageIn : Nodes → List FolderPlace → ℕ → Type 0
IsMessageIn N places m = (f : ℕ) × ((p : FolderPlace) × (find_place f places ≡ Some p) × (is_plain p ≡ true)) × ListsMessage N f m

-- The nodes have these searches: the own search folders, which are just those whose nodes say so, and of these the searches with criteria.
pub record HasSearches (N : Nodes) (places : List FolderPlace) (own : List ℕ) (searches : List Search) : Type 0 where
  pub own_ascend : keys_ascend (λ f. f) 0 own ≡ true
  pub ascend : keys_ascend search_id 0 searches ≡ true
  pub among : (f : ℕ) (s : Search) → find_search f searches ≡ Some s → is_own own f ≡ true
  pub are_own : (f : ℕ) → is_own own f ≡ true → IsSearchIn places f × IsOwnIn N f
  pub all : (f : ℕ) → IsSearchIn places f → IsOwnIn N f → is_own own f ≡ true
  -- each says criteria, those of the search where any are set
  pub criteria : (f : ℕ) → is_own own f ≡ true → (c : Ctx) × HasContext N (criteria_node f) c × ShowsCriteria searches f c.props
  -- its list is a table, whatever its rows name
  pub tables : (f : ℕ) → is_own own f ≡ true → (t : Tbl) × HasTable N (results f) t
