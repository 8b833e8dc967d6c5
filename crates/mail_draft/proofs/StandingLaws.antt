-- What was read of a node is the object that the tree has there.
use Rattle.std.proofs.Common.{ℕ, Option, None, Some, Ok, subst, sym}
use Rattle.std.proofs.lemmas.Option.{same_Some}
use Rattle.mapi_values.specs.Messages.{Mes}
use Rattle.node_port.specs.declared.node.NodeRec.{NodeRec}
use Rattle.mail_objects.proofs.OneLaws.{one-context, one-mail, one-table}
use Rattle.mail_objects.specs.Forms.{Ctx, Tbl}
use Rattle.mail_objects.specs.Objects.{ShowsContext, ShowsMail, ShowsTable}
use Rattle.mail_objects.specs.declared.object.Object.{Object}
use Rattle.mail_objects.specs.declared.object.Object.TheVariants.{Context, Table, Message, Bare}
use Rattle.mail_tree.specs.Tree.{StandsAt}
use Rattle.mail_tree.specs.Changing.{as_context, as_message, as_table, known}
use Rattle.mail_draft.specs.Answers.{Says}

pub says-context : (q : ℕ) (node : NodeRec) (object : Option Object) (other : Option NodeRec) (c : Ctx) → StandsAt q (Some node) object other → ShowsContext node c
    → Says {B = Ctx} (λ x. x) (known (as_context object)) (Ok c)
says-context q node None other c stands shows = tt
says-context q node (Some (Context d)) other c stands shows =
    one-context node c d shows (subst (λ (rec : NodeRec). ShowsContext rec d) (sym (same_Some node stands.1.0 stands.1.1)) stands.1.2)
says-context q node (Some (Table t)) other c stands shows = tt
says-context q node (Some (Message m)) other c stands shows = tt
says-context q node (Some (Bare above)) other c stands shows = tt

pub says-table : (q : ℕ) (node : NodeRec) (object : Option Object) (other : Option NodeRec) (t : Tbl) → StandsAt q (Some node) object other → ShowsTable node t
    → Says {B = Tbl} (λ x. x) (known (as_table object)) (Ok t)
says-table q node None other t stands shows = tt
says-table q node (Some (Context c)) other t stands shows = tt
says-table q node (Some (Table u)) other t stands shows =
    one-table node t u shows (subst (λ (rec : NodeRec). ShowsTable rec u) (sym (same_Some node stands.1.0 stands.1.1)) stands.1.2)
says-table q node (Some (Message m)) other t stands shows = tt
says-table q node (Some (Bare above)) other t stands shows = tt

pub says-message : (q : ℕ) (node : NodeRec) (object : Option Object) (other : Option NodeRec) (m : Mes) → StandsAt q (Some node) object other → ShowsMail q node m
    → Says {B = Mes} (λ x. x) (known (as_message object)) (Ok m)
says-message q node None other m stands shows = tt
says-message q node (Some (Context c)) other m stands shows = tt
says-message q node (Some (Table t)) other m stands shows = tt
says-message q node (Some (Bare above)) other m stands shows = tt
says-message q node (Some (Message n)) other m stands shows =
    one-mail q node m n shows (subst (λ (rec : NodeRec). ShowsMail q rec n) (sym (same_Some node stands.1.0 stands.1.1)) stands.1.2)
