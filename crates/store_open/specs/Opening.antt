-- What an opening of nodes answers.
use Rattle.std.specs.Prelude.{◌≡◌, ℕ, true, List, Some}
use Rattle.node_port.specs.Nodes.{Nodes}
use Rattle.node_port.specs.declared.keeper.KeepStop.TheVariants as keep
use Rattle.mail_tree.specs.declared.places.FolderPlace.{FolderPlace}
use Rattle.mail_tree.specs.Knowing.{Knows}
use Rattle.mail_tree.specs.Standing.{HasTree}
use Rattle.tree_look.specs.Faults.{HasFault}
use Rattle.mail_searches.specs.Searches.{IsFresh, KnowsMessages, Search, find_search, runs}
use Rattle.mail_searches.specs.Searching.{Searching}
use Rattle.search_folders.specs.Comings.{KnowsSearches}
use Rattle.search_look.specs.Faults.{HasSearchFault}
use Rattle.search_look.specs.declared.stops.SearchRefusal.{SearchRefusal}
use Rattle.search_look.specs.declared.stops.SearchRefusal.TheVariants as searches
pub use Rattle.search_look.specs.Showing.{ShowsFresh, ShowsSearches}
use Rattle.store_open.specs.declared.open.OpenedTree.{OpenedTree}
use Rattle.store_open.specs.declared.stops.TreeRefusal.{TreeRefusal}
use Rattle.store_open.specs.declared.stops.TreeRefusal.TheVariants.{Folders, Searches}
use Rattle.store_open.specs.declared.stops.TreeStop.{TreeStop}
use Rattle.store_open.specs.declared.stops.TreeStop.TheVariants.{Refused, Kept}

-- a running search of the tree that the nodes show doesn't list what filtering lists
abbrev pub IsStaleIn : Nodes → ℕ → Type 0
IsStaleIn N f = (X : Searching) × ShowsSearches N X × ((s : Search) × (find_search f X.searches ≡ Some s) × (runs s ≡ true) × (IsFresh X.tree s → ⊥))

-- what a refusal says of the searches
abbrev pub IsSearchRefused : Nodes → List FolderPlace → SearchRefusal → Type 0
IsSearchRefused N places (searches.Node q fault) = HasSearchFault N places (searches.Node q fault)
IsSearchRefused N places (searches.Criteria q) = HasSearchFault N places (searches.Criteria q)
IsSearchRefused N places (searches.Stale f) = IsStaleIn N f.bits

-- what a refusal says of the nodes
abbrev pub IsTreeRefused : Nodes → TreeRefusal → Type 0
IsTreeRefused N (Folders refusal) = HasFault N refusal
IsTreeRefused N (Searches refusal) = (places : List FolderPlace) × HasTree N places × IsSearchRefused N places refusal

-- what a stop says of nodes that a keeper tells: a refusal holds of them and excludes every tree
abbrev pub StopsTree : Nodes → TreeStop → Type 0
StopsTree N (Refused refusal) = IsTreeRefused N refusal × ((X : Searching) → ShowsFresh N X → ⊥)
StopsTree N (Kept keep.Fault) = Unit {0}
StopsTree N (Kept (keep.Changed ib stored computed)) = ⊥
StopsTree N (Kept keep.Memory) = Unit {0}

-- What is known is so of a tree with searches that the nodes show, with these counters, each running search of which lists what filtering lists.
pub record KnowsTree (N : Nodes) (last : List ℕ) (opened : OpenedTree) : Type 0 where
  pub tree : Searching
  pub shows : ShowsFresh N tree
  pub counters : tree.tree.last ≡ last
  pub knows : Knows tree.tree opened.known
  pub searches : KnowsSearches tree opened.searches

-- ---- where a store is only read

-- what a stop of a look says of nodes that a keeper tells: a refusal holds of them and excludes every tree, whatever its searches list
abbrev pub StopsLook : Nodes → TreeStop → Type 0
StopsLook N (Refused refusal) = IsTreeRefused N refusal × ((X : Searching) → ShowsSearches N X → ⊥)
StopsLook N (Kept keep.Fault) = Unit {0}
StopsLook N (Kept (keep.Changed ib stored computed)) = ⊥
StopsLook N (Kept keep.Memory) = Unit {0}

-- What is known is so of a tree with searches that the nodes show, with these counters, whatever its searches list.
pub record LooksTree (N : Nodes) (last : List ℕ) (opened : OpenedTree) : Type 0 where
  pub tree : Searching
  pub shows : ShowsSearches N tree
  pub counters : tree.tree.last ≡ last
  pub knows : Knows tree.tree opened.known
  pub messages : KnowsMessages tree.tree opened.known.flags
  pub searches : KnowsSearches tree opened.searches
