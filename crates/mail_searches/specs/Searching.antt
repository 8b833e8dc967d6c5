-- A tree with its searches, and what keeps them in order.
use Rattle.std.specs.Prelude.{◌≡◌, ◌⊎◌, ℕ, ◌%◌, Bool, true, IsSome, List, [], ◌∷◌, None, Some}
use Rattle.mapi_values.specs.Keyed.{keys_ascend}
use Rattle.mail_tree.specs.mail_objects.Forms.{Ctx, Tbl}
use Rattle.mail_tree.specs.mail_objects.declared.object.Object.TheVariants.{Context, Table}
use Rattle.mapi_values.specs.Tables.{find_row}
use Rattle.mail_tree.specs.Changing.{as_message}
use Rattle.mail_tree.specs.Places.{find_place}
use Rattle.mail_tree.specs.Start.{IsStart}
use Rattle.mail_tree.specs.Tree.{Tree, object_at}
use Rattle.search_obj.specs.Scope.{is_among}
use Rattle.mail_searches.specs.Searches.{IsFresh, Search, ShowsCriteria, criteria_node, find_search, results, runs, search_id, updates}

-- A tree with its searches: the ids of its own search folders, ascending, and those of the searches that have criteria.
pub record Searching : Type 0 where
  pub tree : Tree
  pub own : List ℕ
  pub searches : List Search

-- the folder is a search folder of the tree's own
abbrev pub is_own : List ℕ → ℕ → Bool
is_own own f = is_among own f

-- an object stands at this id for a search of the tree's own: its list, its criteria object, or the node of its updates
abbrev pub IsOfSearch : List ℕ → ℕ → Type 0
IsOfSearch own q = (f : ℕ) × (is_own own f ≡ true) × ((q ≡ results f) ⊎ ((q ≡ criteria_node f) ⊎ (q ≡ updates f)))

-- The searches are those of the tree.
pub record AreSearches (X : Searching) : Type 0 where
  -- they ascend, and each stands in its own search folder
  pub own_ascend : keys_ascend (λ f. f) 0 X.own ≡ true
  pub ascend : keys_ascend search_id 0 X.searches ≡ true
  pub among : (f : ℕ) (s : Search) → find_search f X.searches ≡ Some s → is_own X.own f ≡ true
  -- each own search folder is there, and has a search folder's id
  pub kinds : (f : ℕ) → is_own X.own f ≡ true → f % 32 ≡ 3
  pub placed : (f : ℕ) → is_own X.own f ≡ true → IsSome (find_place f X.tree.places)
  -- its criteria object is there, and says criteria, those of the search where any are set
  pub criteria : (f : ℕ) → is_own X.own f ≡ true → (c : Ctx) × (object_at X.tree (criteria_node f) ≡ Some (Context c)) × ShowsCriteria X.searches f c.props
  -- so is its list, whatever rows it has
  pub tables : (f : ℕ) → is_own X.own f ≡ true → (t : Tbl) × (object_at X.tree (results f) ≡ Some (Table t))

-- each element of a list is so
abbrev pub Each : {E : Type 0} → (E → Type 0) → List E → Type 0
Each P [] = Unit {0}
Each P (x ∷ xs) = P x × Each P xs

-- each running search has the list that it is to have: what filtering all messages gives
abbrev pub AllFresh : Tree → List Search → Type 0
AllFresh T ss = Each (λ s. runs s ≡ true → IsFresh T s) ss

-- a new store has no searches
pub record StartsSearching (name : List ℕ) (X : Searching) : Type 0 where
  pub tree : IsStart name X.tree
  pub none_own : X.own ≡ []
  pub none : X.searches ≡ []
