use Rattle.std.proofs.Common.{◌≡◌, inl, ℕ, List, Err, sym, subst}
use Rattle.pst_base.specs.declared.stops.MemOr.{MemOr}
use Rattle.pst_base.specs.declared.stops.MemOr.TheVariants.{Refused}
use Rattle.node_port.specs.declared.node.NodeRec.{NodeRec}
use Rattle.table_context.specs.Context.{Lacks, ReadsTc}
use Rattle.table_context.specs.declared.fault.TcFault.{TcFault}
use Rattle.table_context.proofs.ContextLaws.{no-table}
use Rattle.mail_objects.specs.Answers.{table_fault}
use Rattle.mail_objects.specs.declared.message.fault.MessageFault.{MessageFault}
use Rattle.mail_objects.proofs.PartLaws.{lacks-table}
use Rattle.tree_look.specs.Forms.{IsNoTable}
use Rattle.tree_look.proofs.forms.table_of.Goals as goal

-- what was refused is no table, and the fault says why
refused-table : (node : NodeRec) (blocks : List (List ℕ)) (stop : MemOr TcFault) (fault : TcFault) (word : MessageFault) → blocks ≡ node.blocks → stop ≡ Refused fault
    → ReadsTc blocks node.subs (Err stop) → word ≡ table_fault fault → IsNoTable node word
refused-table node blocks stop fault word same is reads named =
    let lacks : Lacks node.blocks node.subs fault = subst (λ (b : List (List ℕ)). Lacks b node.subs fault) same (subst (λ (e : MemOr TcFault). ReadsTc blocks node.subs (Err e)) is reads) in
    subst (IsNoTable node) (sym named) ((λ t shows. no-table node.blocks node.subs t.table fault lacks shows.table), inl (lacks-table (node.blocks, node.subs) fault lacks))

pub returns-in-Err-Refused : goal.returns-in-Err-Refused
returns-in-Err-Refused c =
    refused-table c.args.node.now c.as_slice.result.now c.in-Err-Refused.field-0 c.in-Err-Refused.fault c.table_fault.result c.as_slice.ensures.value c.in-Err-Refused.field-0-is c.in-Err-Refused.ensures c.table_fault.ensures
