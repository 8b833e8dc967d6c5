-- What a reader of messages answers.
use Rattle.std.specs.Prelude.{◌≡◌, ◌⊎◌, ℕ, false, List, [], ◌∷◌, Option, None, Some, Result, Ok, Err}
use Rattle.pst_base.specs.Flat.{Flat}
use Rattle.pst_base.specs.declared.stops.MemOr.{MemOr}
use Rattle.pst_base.specs.declared.stops.MemOr.TheVariants.{Memory, Refused}
use Rattle.mapi_values.specs.declared.part.Part.{Part}
use Rattle.mapi_values.specs.Messages.{Mes, nid_attachment_table, nid_recipient_table, row_ids}
use Rattle.mapi_values.specs.Tables.{Tab}
use Rattle.mapi_values.specs.Values.{Val}
use Rattle.node_port.specs.declared.node.NodeRec.{NodeRec}
use Rattle.property_context.specs.Context as pc
use Rattle.node_values.specs.Subnodes.{subnode, without}
use Rattle.property_context.specs.declared.read.PcFault.TheVariants as pcs
use Rattle.table_writer.specs.table_context.Context as tc
use Rattle.table_writer.specs.table_context.declared.fault.TcFault.TheVariants as tcs
use Rattle.mail_objects.specs.Message.{ShowsMessage, ShowsPart, ShowsTable}
use Rattle.mail_objects.specs.Subnodes.{is_table}
use Rattle.mail_objects.specs.declared.message.fault.MessageFault.{MessageFault}
use Rattle.mail_objects.specs.declared.message.fault.MessageFault.TheVariants.{Heap, Bth, Pc, Tc, Attach}

-- blocks and subnodes are no property context, for this reason
abbrev pub LacksContext : List (List ℕ) → List Flat → MessageFault → Type 0
LacksContext blocks subs Heap = pc.Lacks blocks subs pcs.Heap
LacksContext blocks subs Bth = pc.Lacks blocks subs pcs.Bth
LacksContext blocks subs Pc = pc.Lacks blocks subs pcs.Pc
LacksContext blocks subs Tc = ⊥
LacksContext blocks subs Attach = ⊥

-- a subnode is there and is no table, for this reason
abbrev pub LacksTable : Option (List (List ℕ) × List Flat) → MessageFault → Type 0
LacksTable None fault = ⊥
LacksTable (Some sub) Heap = tc.Lacks sub.0 sub.1 tcs.Heap
LacksTable (Some sub) Bth = tc.Lacks sub.0 sub.1 tcs.Bth
LacksTable (Some sub) Tc = tc.Lacks sub.0 sub.1 tcs.Tc
LacksTable (Some sub) Pc = ⊥
LacksTable (Some sub) Attach = ⊥

-- the subnode of an attachment isn't there, or is no property context for this reason
abbrev pub LacksPart : Option (List (List ℕ) × List Flat) → MessageFault → Type 0
LacksPart None fault = fault ≡ Attach
LacksPart (Some sub) fault = LacksContext sub.0 sub.1 fault

-- the first attachment that isn't well, of those with these ids in their order, isn't for this reason
abbrev pub FirstLacks : List Flat → List ℕ → MessageFault → Type 0
FirstLacks subs [] fault = ⊥
FirstLacks subs (id ∷ ids) fault = LacksPart (subnode subs id) fault
    ⊎ ((part : Part) × ShowsPart (subnode subs id) id part × FirstLacks subs ids fault)

-- the table of attachments is none for this reason; or it is well or absent, and of the attachments that its rows name the first that isn't well
abbrev pub LacksAttachments : List Flat → MessageFault → Type 0
LacksAttachments rest fault = LacksTable (subnode rest nid_attachment_table) fault
    ⊎ ((t : Option Tab) × ShowsTable (subnode rest nid_attachment_table) t × FirstLacks (without is_table false rest) (row_ids t) fault)

-- what is wrong among the subnodes that no value uses: the table of recipients is none for this reason; or it is well or absent, and then it is the attachments' fault
abbrev pub LacksBelow : List Flat → MessageFault → Type 0
LacksBelow rest fault = LacksTable (subnode rest nid_recipient_table) fault
    ⊎ ((t : Option Tab) × ShowsTable (subnode rest nid_recipient_table) t × LacksAttachments rest fault)

-- what is wrong with a node that is no message, by the first part that is at fault: its own values, the table of recipients, the table of attachments, then each attachment in the order of the rows
abbrev pub LacksMessage : NodeRec → MessageFault → Type 0
LacksMessage node fault = LacksContext node.blocks node.subs fault
    ⊎ ((values : List Val) × (rest : List Flat) × pc.IsPropertyContext node.blocks node.subs values rest × LacksBelow rest fault)

-- unless memory ran out, a node is read as the message that it is, or refused where it is none, for what is wrong with it
abbrev pub ReadsMessage : ℕ → NodeRec → Result Mes (MemOr MessageFault) → Type 0
ReadsMessage nid node (Ok m) = ShowsMessage nid node m
ReadsMessage nid node (Err Memory) = Unit {0}
ReadsMessage nid node (Err (Refused fault)) = LacksMessage node fault × ((m : Mes) → ShowsMessage nid node m → ⊥)
