-- What stands at the ids of a new store, and the nodes of it.
use Rattle.std.specs.Prelude.{◌≡◌, ℕ, ◌+◌, ◌&&◌, Bool, true, List, [], ◌∷◌, ◌++◌, map, Option, None, Some}
use Rattle.std.specs.Ordering.{nat_cmp}
use Rattle.std.specs.FinMap as finite
use Rattle.pst_base.specs.declared.ids.Nid.{Nid}
use Rattle.node_port.specs.declared.node.NodeRec.{NodeRec}
use Rattle.mail_objects.specs.Objects.{ShowsObject, object_fits, stands_at}
use Rattle.mail_objects.specs.declared.object.Object.{Object}
use Rattle.mail_objects.specs.declared.object.Object.TheVariants.{Table}
use Rattle.mail_tree.specs.Columns.{attachments_table, contents_table, hierarchy_table, recipients_table}
use Rattle.mail_tree.specs.Folders.{nid}
use Rattle.mail_tree.specs.Places.{ROOT}
use Rattle.mail_tree.specs.Start.{context, empty_node, root_hierarchy, root_props, start_objects, start_others}

-- the root's nodes
abbrev pub root_nodes : List (ℕ × Object)
root_nodes = (ROOT, context ROOT root_props) ∷ (ROOT + 11, root_hierarchy) ∷ (ROOT + 12, Table contents_table) ∷ (ROOT + 13, Table contents_table) ∷ []

-- the templates of tables
abbrev pub template_nodes : List (ℕ × Object)
template_nodes = (0x60D, Table hierarchy_table) ∷ (0x60E, Table contents_table) ∷ (0x60F, Table contents_table) ∷ (0x610, Table contents_table)
    ∷ (0x671, Table attachments_table) ∷ (0x692, Table recipients_table) ∷ []

-- objects by their ids, as entries
abbrev pub entries_of : List (ℕ × Object) → List (Nid × Option Object)
entries_of objects = map (λ o. (nid o.0, Some o.1)) objects

-- the ids of all nodes, ascending
abbrev pub start_ids : List ℕ
start_ids = 0x21 ∷ 0x61 ∷ 0x122 ∷ 0x12D ∷ 0x12E ∷ 0x12F ∷ 0x1E1 ∷ 0x201 ∷ 0x60D ∷ 0x60E ∷ 0x60F ∷ 0x610 ∷ 0x671 ∷ 0x692
    ∷ 0x8022 ∷ 0x802D ∷ 0x802E ∷ 0x802F ∷ 0x8042 ∷ 0x804D ∷ 0x804E ∷ 0x804F ∷ 0x8062 ∷ 0x806D ∷ 0x806E ∷ 0x806F ∷ []

-- the object at an id, in the tree or beside it
abbrev pub start_object : List ℕ → ℕ → Option Object
start_object name q = finite.find nat_cmp q (start_objects name ++ start_others)

-- what stands at each id: an object, or a node without data
unfoldable pub start_entries : List ℕ → List (Nid × Option Object)
start_entries name = map (λ q. (nid q, start_object name q)) start_ids

-- the object, if there is one, is small enough to be written
abbrev pub entry_fits : Option Object → Bool
entry_fits None = true
entry_fits (Some object) = object_fits object

-- the object, if there is one, may stand at this id
abbrev pub stands_here : ℕ → Option Object → Bool
stands_here q None = true
stands_here q (Some object) = stands_at q object

-- the entry can be written
abbrev pub can_write : Nid × Option Object → Bool
can_write e = entry_fits e.1 && stands_here (e.0).bits e.1

-- the node with this id is the object, or has no data
abbrev pub IsNodeOf : ℕ → Option Object → NodeRec → Type 0
IsNodeOf q None node = node ≡ empty_node
IsNodeOf q (Some object) node = ShowsObject q node object

-- the nodes are those of the entries, one by one
abbrev pub AreNodesOf : List (Nid × Option Object) → List (Nid × Option NodeRec) → Type 0
AreNodesOf [] [] = Unit {0}
AreNodesOf [] (n ∷ ns) = ⊥
AreNodesOf (e ∷ es) [] = ⊥
AreNodesOf (e ∷ es) (n ∷ ns) = (n.0 ≡ e.0) × ((rec : NodeRec) × (n.1 ≡ Some rec) × IsNodeOf (e.0).bits e.1 rec) × AreNodesOf es ns
