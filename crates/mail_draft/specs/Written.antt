-- Objects of a draft, and the nodes that are made of them.
use Rattle.std.specs.Prelude.{◌≡◌, ◌≤◌, ℕ, true, Option, None, Some}
use Rattle.pst_base.specs.declared.ids.Nid.{Nid}
use Rattle.node_port.specs.declared.node.NodeRec.{NodeRec}
use Rattle.mail_objects.specs.Objects.{ShowsObject, node_size, object_space, stands_at}
use Rattle.mail_objects.specs.declared.object.Object.{Object}

-- the node is the object wherever that may stand, and takes no more than is asked for it; there is none where the object is to go
abbrev pub IsWritten : Option Object → Option NodeRec → Type 0
IsWritten None node = node ≡ None
IsWritten (Some object) None = ⊥
IsWritten (Some object) (Some node) = ((nid : ℕ) → stands_at nid object ≡ true → ShowsObject nid node object) × (node_size node ≤ object_space object)

-- the change is that of the object at an id
abbrev pub Writes : ℕ × Option Object → Nid × Option NodeRec → Type 0
Writes entry change = ((change.0).bits ≡ entry.0) × IsWritten entry.1 change.1
