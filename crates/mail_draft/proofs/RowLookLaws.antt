-- What some blocks of a table's node tell of its rows is so of the tree.
use Rattle.std.proofs.Common.{◌≡◌, ℕ, Bool, is_some, List, Option, None, Some, Ok, refl, sym, subst}
use Rattle.std.proofs.lemmas.Option.{same_Some}
use Rattle.mapi_values.specs.Tables.{find_row}
use Rattle.node_port.specs.Nodes.{block_in, counted}
use Rattle.node_port.specs.declared.node.NodeBlock.{NodeBlock}
use Rattle.node_port.specs.declared.node.NodeRec.{NodeRec}
use Rattle.content_glance.specs.heap_edit.Known.{Known}
use Rattle.content_glance.specs.Rows.{TellsKnown}
use Rattle.mail_objects.specs.Forms.{Tbl}
use Rattle.mail_objects.specs.Objects.{ShowsTable}
use Rattle.mail_objects.specs.declared.object.Object.{Object}
use Rattle.mail_objects.specs.declared.object.Object.TheVariants.{Context, Table, Message, Bare}
use Rattle.mail_objects.specs.table_context.Context.{IsTableContext}
use Rattle.mail_tree.specs.Changing.{as_table, nothing, now_at}
use Rattle.mail_tree.specs.Tree.{StandsAt, Tree, object_at}
use Rattle.mail_draft.specs.Answers.{Says}
use Rattle.mail_draft.specs.Listed.{has_row}
use Rattle.mail_draft.specs.RowLooks.{AreOf, AreSome}
use Rattle.mail_draft.proofs.GlanceLaws.{says-where, table-there}

-- the node where the tree has a table
table-node : (q : ℕ) (whole : Option NodeRec) (object : Option Object) (other : Option NodeRec) (t : Tbl) → StandsAt q whole object other → as_table object ≡ Some t → (node : NodeRec) × (whole ≡ Some node) × ShowsTable node t
table-node q whole None other t stands here = absurd (cc)
table-node q whole (Some (Context c)) other t stands here = absurd (cc)
table-node q whole (Some (Message n)) other t stands here = absurd (cc)
table-node q whole (Some (Bare above)) other t stands here = absurd (cc)
table-node q whole (Some (Table u)) other t stands here = (stands.1.0, stands.1.1, subst (λ (k : Tbl). ShowsTable stands.1.0 k) (same_Some u t here) stands.1.2)

-- the table of blocks of which some are known
known-row : (h : Known) (row : ℕ) (has : Bool) (node : NodeRec) (t : Tbl) → AreSome h node.blocks → TellsKnown h row has → ShowsTable node t → has ≡ is_some (find_row row t.table.rows)
known-row h row has node t are tells shows = tells node.blocks are.0 node.subs t.table (subst (λ (blocks : List (List ℕ)). IsTableContext blocks node.subs t.table) (sym are.1) shows.table)

-- what is told of a row is the answer
pub look-said : (T : Tree) (q row : ℕ) (whole other : Option NodeRec) (h : Known) (has : Bool) → StandsAt q whole (object_at T q) other → AreOf h whole → TellsKnown h row has → Says (λ (b : Bool). b) (has_row T q row) (Ok has)
look-said T q row whole other h has stands are tells =
    says-where (λ (b : Bool). b) (as_table (now_at T nothing q)) (λ (t : Tbl). Ok (is_some (find_row row t.table.rows))) (Ok has) (λ t here.
    let n = table-node q whole (object_at T q) other t stands (table-there T q t here) in
    known-row h row has n.0 t (subst (AreOf h) n.1 are) tells n.2)

-- the block that was found is that of the node
pub found-one : (whole : Option NodeRec) (position : ℕ) (found : NodeBlock) → Some found ≡ block_in position whole → (node : NodeRec) × (whole ≡ Some node) × (found ≡ counted position node.blocks)
found-one None position found is = absurd (cc)
found-one (Some node) position found is = (node, refl, same_Some found (counted position node.blocks) is)

-- where no block was found there is no node
pub none-found : (h : Known) (whole : Option NodeRec) (position : ℕ) → None ≡ block_in position whole → AreOf h whole
none-found h None position is = tt
none-found h (Some node) position is = absurd (cc)
