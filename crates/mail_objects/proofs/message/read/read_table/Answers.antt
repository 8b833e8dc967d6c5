use Rattle.std.proofs.Common.{Option, List, ℕ, subst}
use Rattle.pst_base.specs.Flat.{Flat}
use Rattle.table_writer.specs.table_context.Context.{Lacks}
use Rattle.mail_objects.specs.Reading.{LacksTable}
use Rattle.mail_objects.proofs.PartLaws.{lacks-table}
use Rattle.mail_objects.proofs.message.read.read_table.Goals as goal

pub returns-in-Err-Refused : goal.returns-in-Err-Refused
returns-in-Err-Refused c =
    let lacks : Lacks c.as_slice.result.now c.in-Some.sub.now.subs c.in-Err-Refused.fault = rw c.in-Err-Refused.field-0-is at c.in-Err-Refused.ensures in
    subst (λ (o : Option (List (List ℕ) × List Flat)). LacksTable o c.table_fault.result) c.in-Some.ensures.node
    (rw c.table_fault.ensures (lacks-table (c.in-Some.sub.now.blocks, c.in-Some.sub.now.subs) c.in-Err-Refused.fault (rw c.as_slice.ensures.value at lacks)))
