-- What the reader's parts answer.
use Rattle.std.specs.Prelude.{false, List, Option, Result, Ok, Err}
use Rattle.pst_base.specs.Flat.{Flat}
use Rattle.pst_base.specs.declared.stops.MemOr.{MemOr}
use Rattle.pst_base.specs.declared.stops.MemOr.TheVariants.{Memory, Refused}
use Rattle.mapi_values.specs.declared.part.Part.{Part}
use Rattle.mapi_values.specs.Messages.{nid_attachment_table, nid_recipient_table, row_ids}
use Rattle.mapi_values.specs.Tables.{Tab}
use Rattle.node_values.specs.Subnodes.{subnode, without}
use Rattle.property_context.specs.declared.read.PcFault.{PcFault}
use Rattle.property_context.specs.declared.read.PcFault.TheVariants as pcs
use Rattle.table_writer.specs.table_context.declared.fault.TcFault.{TcFault}
use Rattle.table_writer.specs.table_context.declared.fault.TcFault.TheVariants as tcs
use Rattle.mail_objects.specs.Message.{ShowsParts, ShowsTable}
use Rattle.mail_objects.specs.Subnodes.{is_table}
use Rattle.mail_objects.specs.declared.message.fault.MessageFault.{MessageFault}
use Rattle.mail_objects.specs.declared.message.fault.MessageFault.TheVariants.{Heap, Bth, Pc, Tc}

-- a message's fault, for one of a property context
abbrev pub context_fault : PcFault → MessageFault
context_fault pcs.Heap = Heap
context_fault pcs.Bth = Bth
context_fault pcs.Pc = Pc

-- a message's fault, for one of a table
abbrev pub table_fault : TcFault → MessageFault
table_fault tcs.Heap = Heap
table_fault tcs.Bth = Bth
table_fault tcs.Tc = Tc

-- unless memory ran out, something is wrong for this reason
abbrev pub Refuses : (MessageFault → Type 0) → MemOr MessageFault → Type 0
Refuses IsWrong Memory = Unit {0}
Refuses IsWrong (Refused fault) = IsWrong fault

-- unless memory ran out, what was read is so, or is refused for what is wrong
abbrev pub Reads : {X : Type 0} → (X → Type 0) → (MessageFault → Type 0) → Result X (MemOr MessageFault) → Type 0
Reads IsSo IsWrong (Ok x) = IsSo x
Reads IsSo IsWrong (Err e) = Refuses IsWrong e

-- the tables and the attachments of a message that leaves these subnodes to them
pub record ShowsBelow (rest : List Flat) (recipients attachments : Option Tab) (parts : List Part) : Type 0 where
  pub recipients_are : ShowsTable (subnode rest nid_recipient_table) recipients
  pub attachments_are : ShowsTable (subnode rest nid_attachment_table) attachments
  pub parts_are : ShowsParts (without is_table false rest) (row_ids attachments) parts
