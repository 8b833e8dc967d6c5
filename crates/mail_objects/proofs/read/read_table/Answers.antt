use Rattle.std.proofs.Common.{◌≡◌, ℕ, List, Err, sym, subst}
use Rattle.pst_base.specs.declared.stops.MemOr.{MemOr}
use Rattle.pst_base.specs.declared.stops.MemOr.TheVariants.{Refused}
use Rattle.node_port.specs.declared.node.NodeRec.{NodeRec}
use Rattle.table_writer.specs.table_context.Context.{IsTableContext, ReadsTc}
use Rattle.table_writer.specs.table_context.declared.fault.TcFault.{TcFault}
use Rattle.table_writer.proofs.table_context_laws.ContextLaws.{no-table}
use Rattle.mail_objects.specs.Forms.{Tbl}
use Rattle.mail_objects.specs.Objects.{ShowsTable}
use Rattle.mail_objects.proofs.read.read_table.Goals as goal

-- what was refused is no table
refused-table : (node : NodeRec) (blocks : List (List ℕ)) (stop : MemOr TcFault) (fault : TcFault) → blocks ≡ node.blocks → stop ≡ Refused fault
    → ReadsTc blocks node.subs (Err stop) → (t : Tbl) → ShowsTable node t → ⊥
refused-table node blocks stop fault same is reads t shows =
    no-table blocks node.subs t.table fault
    (subst (λ (e : MemOr TcFault). ReadsTc blocks node.subs (Err e)) is reads)
    (subst (λ (b : List (List ℕ)). IsTableContext b node.subs t.table) (sym same) shows.table)

pub returns-in-Err-Refused : goal.returns-in-Err-Refused
returns-in-Err-Refused c = refused-table c.args.node.now c.as_slice.result.now c.in-Err-Refused.field-0 c.in-Err-Refused.field-0-0 c.as_slice.ensures.value c.in-Err-Refused.field-0-is c.in-Err-Refused.ensures
