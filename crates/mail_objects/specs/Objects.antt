-- Which node is which object, and which objects are small enough to be written.
use Rattle.std.specs.Prelude.{◌≡◌, ◌==◌, ◌+◌, ℕ, Bool, true, [], length}
use Rattle.mapi_values.specs.Messages.{Mes}
use Rattle.pst_base.specs.declared.ids.Nid.{Nid}
use Rattle.node_port.specs.Stops.{subs_size}
use Rattle.node_port.specs.declared.node.NodeRec.{NodeRec}
use Rattle.property_context.specs.Context.{IsPropertyContext}
use Rattle.node_values.specs.Subnodes.{ids_ascend}
use Rattle.table_writer.specs.table_context.Context.{IsTableContext}
use Rattle.mail_objects.specs.Message.{ShowsMessage, is_formed}
use Rattle.property_context.specs.write_limits.Limits.{props_fit, table_fits, message_fits}
use Rattle.property_context.specs.write_limits.Space.{kept_space, message_space, props_space, table_space}
use Rattle.mail_objects.specs.Forms.{Ctx, Tbl}
use Rattle.mail_objects.specs.declared.object.Object.{Object}
use Rattle.mail_objects.specs.declared.object.Object.TheVariants.{Context, Table, Message, Bare}

-- the node is a property context with these values, whose other subnodes ascend by id
pub record ShowsContext (node : NodeRec) (c : Ctx) : Type 0 where
  pub parent : c.parent ≡ node.parent.bits
  pub context : IsPropertyContext node.blocks node.subs c.props c.kept
  pub ascend : ids_ascend 0 c.kept ≡ true

-- the node is this table, whose other subnodes ascend by id
pub record ShowsTable (node : NodeRec) (t : Tbl) : Type 0 where
  pub parent : t.parent ≡ node.parent.bits
  pub table : IsTableContext node.blocks node.subs t.table
  pub ascend : ids_ascend 0 t.table.kept ≡ true

-- the node is this message, which can be laid out again
pub record ShowsMail (nid : ℕ) (node : NodeRec) (m : Mes) : Type 0 where
  pub message : ShowsMessage nid node m
  pub formed : is_formed m ≡ true

-- the node stands below that one, and has neither data nor subnodes
pub record ShowsBare (node : NodeRec) (above : Nid) : Type 0 where
  pub parent : node.parent ≡ above
  pub blocks : node.blocks ≡ []
  pub subs : node.subs ≡ []

-- the node with this id is this object
abbrev pub ShowsObject : ℕ → NodeRec → Object → Type 0
ShowsObject nid node (Context c) = ShowsContext node c
ShowsObject nid node (Table t) = ShowsTable node t
ShowsObject nid node (Message m) = ShowsMail nid node m
ShowsObject nid node (Bare parent) = ShowsBare node parent

-- the object may stand at this id: a message tells its own
abbrev pub stands_at : ℕ → Object → Bool
stands_at nid (Context c) = true
stands_at nid (Table t) = true
stands_at nid (Message m) = m.nid == nid
stands_at nid (Bare parent) = true

-- the object is small enough to be written
abbrev pub object_fits : Object → Bool
object_fits (Context c) = props_fit c.props c.kept
object_fits (Table t) = table_fits t.table
object_fits (Message m) = message_fits m
object_fits (Bare parent) = true

-- what a node takes, with its subnodes
abbrev pub node_size : NodeRec → ℕ
node_size node = length node.blocks + subs_size node.subs + 1

-- the blocks that are asked for an object
abbrev pub object_space : Object → ℕ
object_space (Context c) = props_space c.props + kept_space c.kept
object_space (Table t) = table_space t.table
object_space (Message m) = message_space m
object_space (Bare parent) = 1
