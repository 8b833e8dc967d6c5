-- A node is at most one object of a form.
use Rattle.std.proofs.Common.{◌≡◌, ◌∙◌, ℕ, List, sym, ap}
use Rattle.pst_base.specs.Flat.{Flat}
use Rattle.mapi_values.specs.Messages.{Mes}
use Rattle.mapi_values.specs.Tables.{Tab}
use Rattle.mapi_values.specs.Values.{Val}
use Rattle.node_port.specs.declared.node.NodeRec.{NodeRec}
use Rattle.property_context.proofs.UniqueLaws.{same-rest, same-values}
use Rattle.table_writer.proofs.table_context_laws.ContextLaws as tables
use Rattle.mail_objects.proofs.OneMessage.{same-message}
use Rattle.mail_objects.specs.Forms.{Ctx, Tbl}
use Rattle.mail_objects.specs.Objects.{ShowsContext, ShowsMail, ShowsTable}

abbrev ctx-of : ℕ → List Val → List Flat → Ctx
ctx-of parent props kept = record { parent = parent; props = props; kept = kept }

abbrev tbl-of : ℕ → Tab → Tbl
tbl-of parent table = record { parent = parent; table = table }

pub one-context : (node : NodeRec) (a b : Ctx) → ShowsContext node a → ShowsContext node b → a ≡ b
one-context node a b s t =
    ap (λ (p : ℕ). ctx-of p a.props a.kept) (s.parent ∙ sym t.parent)
    ∙ ap (λ (vs : List Val). ctx-of b.parent vs a.kept) (same-values node.blocks node.subs a.props b.props a.kept b.kept s.context t.context)
    ∙ ap (λ (fs : List Flat). ctx-of b.parent b.props fs) (same-rest node.blocks node.subs a.props b.props a.kept b.kept s.context t.context)

pub one-table : (node : NodeRec) (a b : Tbl) → ShowsTable node a → ShowsTable node b → a ≡ b
one-table node a b s t =
    ap (λ (p : ℕ). tbl-of p a.table) (s.parent ∙ sym t.parent)
    ∙ ap (λ (x : Tab). tbl-of b.parent x) (tables.one-table node.blocks node.subs a.table b.table s.table t.table)

pub one-mail : (nid : ℕ) (node : NodeRec) (a b : Mes) → ShowsMail nid node a → ShowsMail nid node b → a ≡ b
one-mail nid node a b s t = same-message nid node a b s.message t.message
