-- The tree of a store, and which nodes show it.
use Rattle.std.specs.Prelude.{◌≡◌, ℕ, List, Option, None, Some}
use Rattle.std.specs.Ordering.{nat_cmp}
use Rattle.std.specs.FinMap as map
use Rattle.mail_objects.specs.Objects.{ShowsObject}
use Rattle.mail_objects.specs.declared.object.Object.{Object}
use Rattle.node_port.specs.Nodes.{Nodes, node_at}
use Rattle.node_port.specs.declared.node.NodeRec.{NodeRec}
use Rattle.mail_tree.specs.declared.places.FolderPlace.{FolderPlace}

abbrev pub Objects : Type 0
Objects = map.FinMap nat_cmp Object

-- The tree: where its folders stand; by their ids the store's own values (21h), the names (61h), each folder's values, the tables of each plain
-- folder (its folders, its messages, its associated messages) and each message; all other nodes, as they are; and the counters.
pub record Tree : Type 0 where
  pub places : List FolderPlace
  pub objects : Objects
  pub others : Nodes
  pub last : List ℕ

abbrev pub object_at : Tree → ℕ → Option Object
object_at T q = map.get T.objects q

-- what stands at an id: an object of the tree, or another node, as it is
abbrev pub StandsAt : ℕ → Option NodeRec → Option Object → Option NodeRec → Type 0
StandsAt q node None other = node ≡ other
StandsAt q node (Some object) other = (other ≡ None) × ((rec : NodeRec) × (node ≡ Some rec) × ShowsObject q rec object)

-- nodes that are held, with these counters, show the tree
pub record Shown (holds : Nodes → Type 0) (last : List ℕ) (T : Tree) : Type 0 where
  pub nodes : Nodes
  pub held : holds nodes
  pub at : (q : ℕ) → StandsAt q (node_at nodes q) (object_at T q) (node_at T.others q)
  pub counters : T.last ≡ last
