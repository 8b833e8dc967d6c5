-- Why a node isn't of its form.
use Rattle.std.specs.Prelude.{◌≡◌, ◌⊎◌, ℕ, false, List, Some}
use Rattle.pst_base.specs.Flat.{Flat}
use Rattle.mapi_values.specs.Messages.{Mes}
use Rattle.mapi_values.specs.Tables.{Tab}
use Rattle.mapi_values.specs.Values.{Val}
use Rattle.node_port.specs.declared.node.NodeRec.{NodeRec}
use Rattle.node_values.specs.Subnodes.{ids_ascend}
use Rattle.property_context.specs.Context.{IsPropertyContext}
use Rattle.table_context.specs.Context.{IsTableContext}
use Rattle.mail_objects.specs.Message.{ShowsMessage, is_formed}
use Rattle.mail_objects.specs.Reading.{LacksContext, LacksMessage, LacksTable}
use Rattle.mail_objects.specs.declared.message.fault.MessageFault.{MessageFault}
use Rattle.mail_objects.specs.declared.message.fault.MessageFault.TheVariants.{Pc, Tc}
use Rattle.mail_objects.specs.Forms.{Ctx, Tbl}
use Rattle.mail_objects.specs.Objects.{ShowsContext, ShowsMail, ShowsTable}

-- there is no property context, for this reason; or there is one, and the subnodes that no value uses don't ascend by id
abbrev pub LacksValues : NodeRec → MessageFault → Type 0
LacksValues node fault = LacksContext node.blocks node.subs fault
    ⊎ ((fault ≡ Pc) × ((values : List Val) × (kept : List Flat) × IsPropertyContext node.blocks node.subs values kept × (ids_ascend 0 kept ≡ false)))

-- there is no table, for this reason; or there is one, and the subnodes that it keeps don't ascend by id
abbrev pub LacksRows : NodeRec → MessageFault → Type 0
LacksRows node fault = LacksTable (Some (node.blocks, node.subs)) fault
    ⊎ ((fault ≡ Tc) × ((t : Tab) × IsTableContext node.blocks node.subs t × (ids_ascend 0 t.kept ≡ false)))

-- there is no message, for this reason; or there is one, and it can't be laid out again
abbrev pub LacksMail : ℕ → NodeRec → MessageFault → Type 0
LacksMail nid node fault = LacksMessage node fault ⊎ ((fault ≡ Pc) × ((m : Mes) × ShowsMessage nid node m × (is_formed m ≡ false)))

-- the node isn't properties, a table or a message, and this is the reason
abbrev pub IsNoContext : NodeRec → MessageFault → Type 0
IsNoContext node fault = ((c : Ctx) → ShowsContext node c → ⊥) × LacksValues node fault

abbrev pub IsNoTable : NodeRec → MessageFault → Type 0
IsNoTable node fault = ((t : Tbl) → ShowsTable node t → ⊥) × LacksRows node fault

abbrev pub IsNoMail : ℕ → NodeRec → MessageFault → Type 0
IsNoMail nid node fault = ((m : Mes) → ShowsMail nid node m → ⊥) × LacksMail nid node fault
