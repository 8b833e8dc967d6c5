-- How a look at searches goes on.
use Rattle.std.specs.Prelude.{◌≡◌, ◌⊎◌, ℕ, Bool, true, IsSome, List, Option, None, Some, Result, Ok, Err}
use Rattle.pst_base.specs.declared.ids.Nid.{Nid}
use Rattle.pst_base.specs.declared.stops.MemOr.{MemOr}
use Rattle.pst_base.specs.declared.stops.MemOr.TheVariants as or_memory
use Rattle.mapi_values.specs.Keyed.{keys_ascend, put_key}
use Rattle.mail_objects.specs.declared.message.fault.MessageFault.{MessageFault}
use Rattle.node_port.specs.Nodes.{Nodes, node_at}
use Rattle.node_port.specs.Stops.{KeepStops}
use Rattle.node_port.specs.declared.keeper.KeepStop.TheVariants as keep
use Rattle.node_port.specs.declared.node.NodeRec.{NodeRec}
use Rattle.mail_objects.specs.Forms.{Ctx, Tbl}
use Rattle.mail_objects.specs.Objects.{ShowsContext, ShowsTable}
use Rattle.mail_tree.specs.Places.{find_place}
use Rattle.mail_tree.specs.Standing.{HasContext, HasTable}
use Rattle.mail_tree.specs.declared.places.FolderPlace.{FolderPlace}
use Rattle.search_obj.specs.Crits.{Crit, CritSet}
use Rattle.search_obj.specs.Objects.{IsMarked, Says}
use Rattle.search_obj.specs.declared.criteria.Version.{Version}
use Rattle.tree_look.specs.Forms.{IsNoTable}
use Rattle.mail_searches.specs.Searches.{Search, ShowsCriteria, criteria_node, criteria_of, find_search, results, search_id, search_of}
use Rattle.mail_searches.specs.Searching.{is_own}
use Rattle.search_look.specs.Having.{IsOwnIn, IsSearchIn}
use Rattle.search_look.specs.declared.stops.SearchRefusal.{SearchRefusal}
use Rattle.search_look.specs.declared.stops.SearchRefusal.TheVariants as refusals
use Rattle.search_look.specs.declared.stops.SearchStop.{SearchStop}
use Rattle.search_look.specs.declared.stops.SearchStop.TheVariants.{Refused, Kept}

-- ---- stops

-- a stop of the keeper comes as the keeper's own stops do
abbrev pub IsKept : Bool → ℕ → ℕ → (Nodes → Type 0) → SearchStop → Type 0
IsKept disk before after held (Refused refusal) = Unit {0}
IsKept disk before after held (Kept stop) = KeepStops disk before after held stop

-- the stop is a refusal, or memory ran out
abbrev pub IsCalm : SearchStop → Type 0
IsCalm (Refused refusal) = Unit {0}
IsCalm (Kept keep.Fault) = ⊥
IsCalm (Kept (keep.Changed ib stored computed)) = ⊥
IsCalm (Kept keep.Memory) = Unit {0}

-- a refusal says what is wrong
abbrev pub Refuses : (SearchRefusal → Type 0) → SearchStop → Type 0
Refuses IsWrong (Refused refusal) = IsWrong refusal
Refuses IsWrong (Kept stop) = Unit {0}

-- no refusal comes
abbrev pub IsNever : SearchRefusal → Type 0
IsNever refusal = ⊥

-- what is found is so, or a refusal says what is wrong
abbrev pub Finds : {A : Type 0} → (A → Type 0) → (SearchRefusal → Type 0) → Result A SearchStop → Type 0
Finds IsSo IsWrong (Ok a) = IsSo a
Finds IsSo IsWrong (Err stop) = Refuses IsWrong stop

-- the stop where the node of a list couldn't be read as a table
abbrev pub formless : Nid → MemOr MessageFault → SearchStop
formless nid or_memory.Memory = Kept keep.Memory
formless nid (or_memory.Refused fault) = Refused (refusals.Node nid fault)

-- ---- one search folder

-- the node is a property context whose values are marked
abbrev pub HasMark : NodeRec → Type 0
HasMark node = (c : Ctx) × ShowsContext node c × ((version : Version) × IsMarked c.props version)

-- the node is no criteria object of the store's own, or says these criteria
abbrev pub TellsOwn : NodeRec → Option Crit → Type 0
TellsOwn node None = HasMark node → ⊥
TellsOwn node (Some k) = (c : Ctx) × ShowsContext node c × Says c.props k

-- the node's values are marked, and criteria aren't found in them
abbrev pub LacksCriteria : Nid → NodeRec → SearchRefusal → Type 0
LacksCriteria nid node (refusals.Node q fault) = ⊥
LacksCriteria nid node (refusals.Criteria q) = (q ≡ nid) × ((c : Ctx) × ShowsContext node c × ((version : Version) × IsMarked c.props version) × (criteria_of c.props ≡ None))
LacksCriteria nid node (refusals.Stale f) = ⊥

-- the same of the folder's criteria object
abbrev pub TellsOwnAt : Nodes → ℕ → Option Crit → Type 0
TellsOwnAt N f None = (node : NodeRec) → node_at N (criteria_node f) ≡ Some node → HasMark node → ⊥
TellsOwnAt N f (Some k) = (c : Ctx) × HasContext N (criteria_node f) c × Says c.props k

abbrev pub LacksCriteriaAt : Nodes → ℕ → SearchRefusal → Type 0
LacksCriteriaAt N f refusal = (nid : Nid) × (node : NodeRec) × (nid.bits ≡ criteria_node f) × (node_at N (criteria_node f) ≡ Some node) × LacksCriteria nid node refusal

-- the node is a table
abbrev pub IsList : NodeRec → Type 0
IsList node = (t : Tbl) × ShowsTable node t

-- the node is none
abbrev pub IsNoList : Nid → NodeRec → SearchRefusal → Type 0
IsNoList nid node (refusals.Node q fault) = (q ≡ nid) × IsNoTable node fault
IsNoList nid node (refusals.Criteria q) = ⊥
IsNoList nid node (refusals.Stale f) = ⊥

-- the folder is none of the store's own, or these are its criteria, and its list is there
abbrev pub FoundAt : Nodes → ℕ → Option Crit → Type 0
FoundAt N f None = IsOwnIn N f → ⊥
FoundAt N f (Some k) = IsOwnIn N f × ((c : Ctx) × HasContext N (criteria_node f) c × Says c.props k) × ((t : Tbl) × HasTable N (results f) t)

-- ---- all of them

-- the searches with one whose folder is this one, where criteria are set
abbrev pub with_set : ℕ → Option CritSet → List Search → List Search
with_set f None searches = searches
with_set f (Some set) searches = put_key search_id (search_of f set) searches

-- The searches among the folders that were looked at: all that is so of the searches that nodes have, but for the folders that are left.
pub record ArePart (N : Nodes) (places rest : List FolderPlace) (own : List ℕ) (searches : List Search) : Type 0 where
  pub own_ascend : keys_ascend (λ f. f) 0 own ≡ true
  pub ascend : keys_ascend search_id 0 searches ≡ true
  pub among : (f : ℕ) (s : Search) → find_search f searches ≡ Some s → is_own own f ≡ true
  pub are_own : (f : ℕ) → is_own own f ≡ true → IsSearchIn places f × IsOwnIn N f
  pub all : (f : ℕ) → IsSearchIn places f → IsOwnIn N f → (is_own own f ≡ true) ⊎ IsSome (find_place f rest)
  pub criteria : (f : ℕ) → is_own own f ≡ true → (c : Ctx) × HasContext N (criteria_node f) c × ShowsCriteria searches f c.props
  pub tables : (f : ℕ) → is_own own f ≡ true → (t : Tbl) × HasTable N (results f) t
