-- Why nodes don't have searches.
use Rattle.std.specs.Prelude.{◌≡◌, ℕ, List, None, Some, Result, Ok, Err}
use Rattle.node_port.specs.Nodes.{Nodes, node_at}
use Rattle.node_port.specs.declared.node.NodeRec.{NodeRec}
use Rattle.mail_objects.specs.Forms.{Ctx}
use Rattle.mail_tree.specs.declared.places.FolderPlace.{FolderPlace}
use Rattle.mail_tree.specs.Standing.{HasContext}
use Rattle.tree_look.specs.Forms.{IsNoTable}
use Rattle.mail_searches.specs.Searches.{criteria_node, criteria_of, results}
use Rattle.mail_searches.specs.declared.known.KnownSearches.{KnownSearches}
use Rattle.search_look.specs.Having.{HasSearches, IsOwnIn, IsSearchIn}
use Rattle.search_look.specs.declared.stops.SearchRefusal.{SearchRefusal}
use Rattle.search_look.specs.declared.stops.SearchRefusal.TheVariants as refusals
use Rattle.search_look.specs.declared.stops.SearchStop.{SearchStop}
use Rattle.search_look.specs.declared.stops.SearchStop.TheVariants.{Refused, Kept}

-- what a refusal says of the nodes: of a search of the store's own, that its list is no table, or that no criteria are found in the values of its criteria object; of what lists have to show nothing is said
abbrev pub HasSearchFault : Nodes → List FolderPlace → SearchRefusal → Type 0
HasSearchFault N places (refusals.Node q fault) = (f : ℕ) × IsSearchIn places f × IsOwnIn N f × (q.bits ≡ results f) × ((node : NodeRec) × (node_at N q.bits ≡ Some node) × IsNoTable node fault)
HasSearchFault N places (refusals.Criteria q) = (f : ℕ) × IsSearchIn places f × IsOwnIn N f × (q.bits ≡ criteria_node f) × ((c : Ctx) × HasContext N q.bits c × (criteria_of c.props ≡ None))
HasSearchFault N places (refusals.Stale f) = ⊥

-- the searches that are known are those of the nodes, or the stop says why there are none; a stop of the keeper is no matter of the nodes
abbrev pub FindsSearches : Nodes → List FolderPlace → Result KnownSearches SearchStop → Type 0
FindsSearches N places (Ok known) = HasSearches N places known.own known.searches
FindsSearches N places (Err (Refused refusal)) = HasSearchFault N places refusal
FindsSearches N places (Err (Kept stop)) = Unit {0}
