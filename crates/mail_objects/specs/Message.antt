-- Which node is which message ([MS-PST] 2.4.5): a property context, the tables of its recipients and its attachments in two
-- subnodes, and each attachment, a property context too, in the subnode that a row of the table names.
use Rattle.std.specs.Prelude.{◌≡◌, ℕ, ◌&&◌, Bool, true, false, not, List, [], ◌∷◌, Option, None, Some}
use Rattle.std.specs.List.{list_all}
use Rattle.pst_base.specs.Flat.{Flat}
use Rattle.mapi_values.specs.declared.part.Part.{Part}
use Rattle.mapi_values.specs.Messages.{Mes, is_own, nid_attachment_table, nid_recipient_table, part_id, row_ids}
use Rattle.mapi_values.specs.Tables.{Tab}
use Rattle.node_port.specs.declared.node.NodeRec.{NodeRec}
use Rattle.property_context.specs.Context.{IsPropertyContext}
use Rattle.node_values.specs.Subnodes.{ids_ascend, subnode, without}
use Rattle.table_writer.specs.table_context.Context.{IsTableContext}
use Rattle.mail_objects.specs.Subnodes.{is_table}

-- the table in a subnode, or none where there is no subnode
abbrev pub ShowsTable : Option (List (List ℕ) × List Flat) → Option Tab → Type 0
ShowsTable None None = Unit {0}
ShowsTable None (Some t) = ⊥
ShowsTable (Some sub) None = ⊥
ShowsTable (Some sub) (Some t) = IsTableContext sub.0 sub.1 t

-- the attachment in the subnode with this id
abbrev pub ShowsPart : Option (List (List ℕ) × List Flat) → ℕ → Part → Type 0
ShowsPart None id part = ⊥
ShowsPart (Some sub) id part = (part_id part ≡ id) × IsPropertyContext sub.0 sub.1 part.props part.kept

-- the attachments in the subnodes with these ids
abbrev pub ShowsParts : List Flat → List ℕ → List Part → Type 0
ShowsParts subs [] [] = Unit {0}
ShowsParts subs [] (part ∷ parts) = ⊥
ShowsParts subs (id ∷ ids) [] = ⊥
ShowsParts subs (id ∷ ids) (part ∷ parts) = ShowsPart (subnode subs id) id part × ShowsParts subs ids parts

-- the node with this id is the message: `rest` are the subnodes that none of its own values uses
pub record ShowsMessage (nid : ℕ) (node : NodeRec) (m : Mes) : Type 0 where
  pub id : m.nid ≡ nid
  pub folder : m.folder ≡ node.parent.bits
  pub rest : List Flat
  pub context : IsPropertyContext node.blocks node.subs m.props rest
  pub recipients : ShowsTable (subnode rest nid_recipient_table) m.recipients
  pub attachments : ShowsTable (subnode rest nid_attachment_table) m.attachments
  pub parts : ShowsParts (without is_table false rest) (row_ids m.attachments) m.parts
  pub kept : m.kept ≡ without (is_own m.parts) false rest

-- the ids of the subnodes that a table keeps ascend, if there is a table
abbrev pub table_ascends : Option Tab → Bool
table_ascends None = true
table_ascends (Some t) = ids_ascend 0 t.kept

-- the subnodes that an attachment keeps ascend by id, and it doesn't stand where a table of the message stands
abbrev pub part_is_formed : Part → Bool
part_is_formed part = ids_ascend 0 part.kept && not (is_table (part_id part))

-- The message can be laid out as a node: subnodes that are kept ascend by id, and no two things share one.
unfoldable pub is_formed : Mes → Bool
is_formed m = ids_ascend 0 m.kept && (table_ascends m.recipients && (table_ascends m.attachments && list_all part_is_formed m.parts))
